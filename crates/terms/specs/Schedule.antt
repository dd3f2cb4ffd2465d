-- The schedule of a month's bands: what its terms may be, and the bands that they give each date.
use Rattle.std.specs.Prelude.{◌≡◌, ℕ, ◌*◌, ◌<◌, ◌≤◌, List, length, ℤ, pos, negsuc, ◌≤ℤ◌, ◌<ℤ◌, Some, None, Option, ◌≢◌, slice_index_or}
use Rattle.kinds.specs.declared.dates.Date.{Date}
use Rattle.kinds.specs.declared.dates.Month.{Month}
use Rattle.kinds.specs.declared.refusals.Refusal.{Refusal}
use Rattle.kinds.specs.declared.refusals.Refusal.TheVariants.{WrongMonth, WrongSeries, TermOutOfRange}
use Rattle.rules.specs.declared.bands.Bands.{Bands}
use Rattle.terms.specs.declared.schedule.Terms.{Terms}
use Rattle.rules.specs.Bands.{figures_of}
use Rattle.rules.specs.Exact.{exactly, Coldness}
use Rattle.rules.specs.Monthly.{on_date}
use Rattle.terms.specs.Months.{Ruled, days_in}
use Rattle.terms.specs.Tolerance.{thousandths}

-- within 60 degrees either way, in tenths of a degree
pub record Plausible (t : ℤ) : Type 0 where
  pub low : negsuc 599 ≤ℤ t
  pub high : t ≤ℤ pos 600

-- a missing forecast is no value
abbrev pub PlausibleOrNone : Option ℤ → Type 0
PlausibleOrNone None = Unit {0}
PlausibleOrNone (Some t) = Plausible t

abbrev pub AllPlausible : List (Option ℤ) → Type 0
AllPlausible fs = (k : ℕ) → k < length fs → PlausibleOrNone (slice_index_or fs k None)

pub record Sound (t : Terms) : Type 0 where
  pub base : t.base ≤ 100000000
  pub optional : t.optional ≤ 30
  pub threshold : Plausible t.threshold
  pub limit : Plausible t.limit
  pub order : t.limit <ℤ t.threshold
  pub talon : t.talon ≤ 100

-- a forecast or none for each day of a month, and all within their ranges
pub record Fit (t : Terms) (fs : List (Option ℤ)) : Type 0 where
  pub month : Ruled t.month
  pub series : length fs ≡ days_in t.month
  pub terms : Sound t
  pub forecasts : AllPlausible fs

pub data Unfit (t : Terms) (fs : List (Option ℤ)) : Refusal → Type 0 where
  month : (Ruled t.month → ⊥) → Unfit t fs WrongMonth
  series : Ruled t.month → (length fs ≢ days_in t.month) → Unfit t fs WrongSeries
  range : Ruled t.month → length fs ≡ days_in t.month → (Sound t → AllPlausible fs → ⊥) → Unfit t fs TermOutOfRange

-- the bands of a day whose forecast is f: n / d is the temperature share
pub record Banded (t : Terms) (f : ℤ) (b : Bands) : Type 0 where
  pub n : ℕ
  pub d : ℕ
  pub share : Coldness f t.threshold t.limit n d
  pub figures : figures_of b ≡ exactly (thousandths t.perimeter t.base) (t.base * t.optional) n d t.talon

-- a day with a forecast has bands, and one without has none
abbrev pub DayOf : Terms → Option ℤ → Option Bands → Type 0
DayOf t None None = Unit {0}
DayOf t None (Some b) = ⊥
DayOf t (Some f) None = ⊥
DayOf t (Some f) (Some b) = Banded t f b

-- the bands of each date, over the days of the terms' month
pub record Scheduled (t : Terms) (fs : List (Option ℤ)) (m : Month) (bs : List (Option Bands)) : Type 0 where
  pub fit : Fit t fs
  pub month : m ≡ t.month
  pub days : (d : Date) → DayOf t (on_date t.month fs d) (on_date m bs d)
