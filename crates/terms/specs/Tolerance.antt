-- The standard tolerance: each bracket's rate, in thousandths, on the part of the base inside it.
use Rattle.std.specs.Prelude.{ℕ, ◌+◌, ◌-◌, ◌*◌, ◌<◌, ◌≤◌, min, List, [], ◌∷◌, slice_index}
use Rattle.terms.specs.declared.tolerance.Perimeter.{Perimeter}
use Rattle.terms.specs.declared.tolerance.Perimeter.TheVariants.{NorthB, NorthH, South}

-- the edges in kWh a day, from nothing to the largest base
abbrev pub edges : List ℕ
edges = 0 ∷ 500000 ∷ 1000000 ∷ 2000000 ∷ 50000000 ∷ 100000000 ∷ []

abbrev pub rates_of : Perimeter → List ℕ
rates_of NorthB = 300 ∷ 200 ∷ 50 ∷ 50 ∷ 50 ∷ []
rates_of NorthH = 300 ∷ 200 ∷ 200 ∷ 50 ∷ 45 ∷ []
rates_of South = 300 ∷ 200 ∷ 200 ∷ 55 ∷ 50 ∷ []

-- the rates on the parts of the base between one edge and the next
abbrev pub summed : ℕ → List ℕ → List ℕ → ℕ
summed base [] es = 0
summed base (r ∷ rs) [] = 0
summed base (r ∷ rs) (low ∷ []) = 0
summed base (r ∷ rs) (low ∷ high ∷ es) = r * (min base high - low) + summed base rs (high ∷ es)

-- in thousandths of a kWh
abbrev pub thousandths : Perimeter → ℕ → ℕ
thousandths p base = summed base (rates_of p) edges

-- the base ends in the bracket n: above its lower edge, or at nothing in the first, and at most at its upper edge, which belongs to it
pub record Ends (base n : ℕ) : Type 0 where
  pub first : 1 ≤ n
  pub last : n ≤ 5
  pub above : 1 < n → slice_index edges (n - 1) < base
  pub within : base ≤ 100000000 → base ≤ slice_index edges n
