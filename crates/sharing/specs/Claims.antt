-- What a sharing does to claims of any kind, known by what they tell, the share that they hold, and themselves with a share taken.
use Rattle.std.specs.Prelude.{◌≡◌, ℕ, ◌<◌, List, map, length, ℤ, slice_index_or}
use Rattle.sharing.specs.Sharing.{at, Shared}
use Rattle.sharing.specs.Limits.{Limits}
use Rattle.sharing.specs.Amounts.{Sharable, Over}

-- the claims zs are the claims xs, each with its share taken
abbrev pub Takes : {X : Type 0} → (X → ℤ → X) → (ℕ → ℤ) → List X → List X → Type 0
Takes {X} taking due xs zs = (k : ℕ) (d : X) → k < length xs → slice_index_or zs k d ≡ taking (slice_index_or xs k d) (due k)

-- the claims zs tell what the claims xs told, and differ from them in nothing but the shares that they hold
pub record Taken {X : Type 0} (told held : X → ℤ) (taking : X → ℤ → X) (xs zs : List X) : Type 0 where
  pub tells : map told zs ≡ map told xs
  pub only : Takes taking (at (map held zs)) xs zs

-- p / q of the sum of the claims xs, t in all, is shared out to them, and they are then zs
pub record Given {X : Type 0} (told held : X → ℤ) (taking : X → ℤ → X) (p q : ℕ) (xs zs : List X) (t : ℤ) : Type 0 where
  pub limits : Limits p q (map told xs)
  pub shared : Shared p q (map told xs) (map held zs) t
  pub taken : Taken told held taking xs zs

-- the amount a is shared out over the claims xs, and they are then zs
pub record Allotted {X : Type 0} (told held : X → ℤ) (taking : X → ℤ → X) (a : ℤ) (xs zs : List X) : Type 0 where
  pub sharable : Sharable a (map told xs)
  pub over : Over a (map told xs) (map held zs)
  pub taken : Taken told held taking xs zs
