-- The base of a month: the capacity, the largest of the month's allocations and the monthly capacity.
use Rattle.std.specs.Prelude.{◌≡◌, ℕ, ◌+◌, ◌<◌, ◌≤◌, List, length, slice_index}
use Rattle.kinds.specs.declared.dates.Month.{Month}
use Rattle.kinds.specs.declared.refusals.Refusal.{Refusal}
use Rattle.kinds.specs.declared.refusals.Refusal.TheVariants.{WrongMonth, WrongSeries, TermOutOfRange}
use Rattle.terms.specs.Months.{Ruled, days_in}

-- one of them, which none is above
pub record Largest (xs : List ℕ) (x : ℕ) : Type 0 where
  pub among : (k : ℕ) × (k < length xs) × (slice_index xs k ≡ x)
  pub most : (k : ℕ) → k < length xs → slice_index xs k ≤ x

-- one for the eve of the month and one for each of its days
abbrev pub Allocated : Month → List ℕ → Type 0
Allocated m xs = length xs ≡ days_in m + 1

pub record Based (m : Month) (capacity monthly : ℕ) (xs : List ℕ) (b : ℕ) : Type 0 where
  pub month : Ruled m
  pub series : Allocated m xs
  pub largest : ℕ
  pub is_largest : Largest xs largest
  pub sum : b ≡ capacity + largest + monthly
  pub ranged : b ≤ 100000000

pub data Baseless (m : Month) (capacity monthly : ℕ) (xs : List ℕ) : Refusal → Type 0 where
  month : (Ruled m → ⊥) → Baseless m capacity monthly xs WrongMonth
  series : Ruled m → (Allocated m xs → ⊥) → Baseless m capacity monthly xs WrongSeries
  range : Ruled m → Allocated m xs → (x : ℕ) → Largest xs x → 100000000 < capacity + x + monthly → Baseless m capacity monthly xs TermOutOfRange
