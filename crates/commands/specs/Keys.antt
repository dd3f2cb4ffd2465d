-- Words that decide what the words after them mean.
use Rattle.std.specs.Prelude.{◌≡◌, ℕ, List, ◌∷◌}

-- the first word makes the choice k, and the others follow it
abbrev pub Keyed : {K : Type 0} → (K → List ℕ) → K → List (List ℕ) → List (List ℕ) → Type 0
Keyed spelled k rest ws = ws ≡ spelled k ∷ rest

-- no word stands first that makes a choice
abbrev pub Unkeyed : {K : Type 0} → (K → List ℕ) → List (List ℕ) → Type 0
Unkeyed {K = K} spelled ws = (k : K) (rest : List (List ℕ)) → Keyed spelled k rest ws → ⊥
