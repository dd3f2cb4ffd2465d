-- What can be shared, and the first limit that is passed where it cannot.
use Rattle.std.specs.Prelude.{◌≡◌, ℕ, ◌*◌, ◌<◌, ◌≤◌, ◌⊎◌, List, length, ℤ, unsigned_abs}
use Rattle.kinds.specs.declared.refusals.Refusal.{Refusal}
use Rattle.kinds.specs.declared.refusals.Refusal.TheVariants.{TooManyClaims, ClaimTooLarge, NumeratorTooLarge, DenominatorOutOfRange, ProductTooLarge}
use Rattle.sharing.specs.Sharing.{at, sizes}

abbrev pub Few : List ℤ → Type 0
Few vs = length vs ≤ 40

abbrev pub Small : List ℤ → Type 0
Small vs = (k : ℕ) → k < length vs → unsigned_abs (at vs k) ≤ 10000000000

abbrev pub Beyond : List ℤ → Type 0
Beyond vs = (k : ℕ) × (k < length vs) × (10000000000 < unsigned_abs (at vs k))

pub record Limits (p q : ℕ) (vs : List ℤ) : Type 0 where
  pub few : Few vs
  pub small : Small vs
  pub top : p ≤ 20000000000
  pub some : 0 < q
  pub bottom : q ≤ 1000000000000
  pub product : p * sizes vs ≤ 9000000000000000000

-- the limits are tested in their order, and the refusal names the first that is passed
pub data Breaks (p q : ℕ) (vs : List ℤ) : Refusal → Type 0 where
  many : 40 < length vs → Breaks p q vs TooManyClaims
  large : Few vs → Beyond vs → Breaks p q vs ClaimTooLarge
  high : Few vs → Small vs → 20000000000 < p → Breaks p q vs NumeratorTooLarge
  apart : Few vs → Small vs → p ≤ 20000000000 → (q ≡ 0) ⊎ (1000000000000 < q) → Breaks p q vs DenominatorOutOfRange
  wide : Few vs → Small vs → p ≤ 20000000000 → 0 < q → q ≤ 1000000000000 → 9000000000000000000 < p * sizes vs → Breaks p q vs ProductTooLarge

-- nothing is both within the limits and past one
abbrev pub ExactLimits : Type 0
ExactLimits = (p q : ℕ) (vs : List ℤ) (e : Refusal) → Breaks p q vs e → Limits p q vs → ⊥
