-- The rule of sharing: what it is to share p / q of a sum among the claims on it.
use Rattle.std.specs.Prelude.{◌≡◌, ℕ, ◌+◌, ◌*◌, ◌<◌, ◌⊎◌, List, [], ◌∷◌, length, ℤ, pos, ◌+ℤ◌, ◌-ℤ◌, ◌*ℤ◌, ◌≤ℤ◌, ◌<ℤ◌, slice_index_or, unsigned_abs}

-- the number at a place, and zero past the end
abbrev pub at : List ℤ → ℕ → ℤ
at xs k = slice_index_or xs k (pos 0)

abbrev pub sum : List ℤ → ℤ
sum [] = pos 0
sum (x ∷ xs) = x +ℤ sum xs

-- the sum of the sizes, which have no sign
abbrev pub sizes : List ℤ → ℕ
sizes [] = 0
sizes (x ∷ xs) = unsigned_abs x + sizes xs

-- p × v / q, rounded downward, is f, and the remainder is x
pub record Part (p q : ℕ) (v f : ℤ) (x : ℕ) : Type 0 where
  pub is : pos p *ℤ v ≡ pos q *ℤ f +ℤ pos x
  pub below : x < q

-- t is the whole number nearest to p × v / q, of two the upper one
pub record Nearest (p q : ℕ) (v t : ℤ) : Type 0 where
  pub low : (pos (2 * q) *ℤ t) ≤ℤ (pos (2 * p) *ℤ v +ℤ pos q)
  pub high : (pos (2 * p) *ℤ v +ℤ pos q) <ℤ (pos (2 * q) *ℤ (t +ℤ pos 1))

-- the claims vs are given the shares ss, t in all
pub record Shared (p q : ℕ) (vs ss : List ℤ) (t : ℤ) : Type 0 where
  pub long : length ss ≡ length vs
  pub whole : sum ss ≡ t
  pub nearest : Nearest p q (sum vs) t
  -- each share is rounded downward, or that and a unit
  pub each : (k : ℕ) → k < length vs → (x : ℕ) × (Part p q (at vs k) (at ss k) x ⊎ Part p q (at vs k) (at ss k -ℤ pos 1) x)
  -- who has a unit more than who has none has the larger remainder, or the same and the lower number
  pub first : (i j x y : ℕ) → i < length vs → j < length vs → Part p q (at vs i) (at ss i -ℤ pos 1) x → Part p q (at vs j) (at ss j) y
      → (y < x) ⊎ ((x ≡ y) × (i < j))

-- the rule leaves one list of shares and one total
abbrev pub OneWay : Type 0
OneWay = (p q : ℕ) (vs ss zs : List ℤ) (t u : ℤ) → 0 < q → Shared p q vs ss t → Shared p q vs zs u → (ss ≡ zs) × (t ≡ u)
