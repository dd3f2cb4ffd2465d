-- A series of day prices by the values of its days, and why values are no series.
use Rattle.std.specs.Prelude.{◌≡◌, ℕ, ◌<◌, List, map, length, None, Option, MatchOption, slice_index_or}
use Rattle.std.specs.Option.{option_map}
use Rattle.kinds.specs.declared.dates.Month.{Month}
use Rattle.kinds.specs.declared.refusals.Refusal.{Refusal}
use Rattle.kinds.specs.declared.refusals.Refusal.TheVariants.{WrongMonth, WrongSeries, TermOutOfRange}
use Rattle.terms.specs.Months.{Ruled, days_in}
use Rattle.rules.specs.declared.day_price.DayPrice.{DayPrice}
use Rattle.rules.specs.declared.monthly.Monthly.{Monthly}

abbrev pub cents_of : DayPrice → ℕ
cents_of p = p.cents

-- the value of a day: its price in cents, or none
abbrev pub value_of : Option DayPrice → Option ℕ
value_of = option_map cents_of

-- a value for each day of the month
abbrev pub Daily : Month → List (Option ℕ) → Type 0
Daily m vs = length vs ≡ days_in m

-- a value is above the largest price; a missing one is no value
abbrev pub Above : Option ℕ → Type 0
Above v = MatchOption v ⊥ (λ n. 30000 < n)

abbrev pub SomeAbove : List (Option ℕ) → Type 0
SomeAbove vs = (k : ℕ) × (k < length vs) × Above (slice_index_or vs k None)

-- the series of these values, day by day
pub record Series (m : Month) (vs : List (Option ℕ)) (s : Monthly DayPrice) : Type 0 where
  pub ruled : Ruled m
  pub daily : Daily m vs
  pub month : s.month ≡ m
  pub days : map value_of s.days.items ≡ vs

-- the month is tested first, then the number of the values, then each value
pub data NoSeries (m : Month) (vs : List (Option ℕ)) : Refusal → Type 0 where
  outside : (Ruled m → ⊥) → NoSeries m vs WrongMonth
  uneven : Ruled m → (Daily m vs → ⊥) → NoSeries m vs WrongSeries
  above : Ruled m → Daily m vs → SomeAbove vs → NoSeries m vs TermOutOfRange
