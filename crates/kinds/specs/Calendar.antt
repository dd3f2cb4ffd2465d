-- The Gregorian calendar: leap years, the days of a month, the dates that exist, their order, and the day after.
use Rattle.std.specs.Prelude.{◌≡◌, ℕ, ◌%◌, ◌<◌, ◌≤◌, Bool, cond, not, ◌&&◌, ◌||◌, ◌⊎◌, List, [], ◌∷◌, ◌==◌, slice_index}
use Rattle.kinds.specs.declared.dates.Date.{Date}

-- divisible by 4, and not by 100 unless by 400
abbrev pub Leap : ℕ → Type 0
Leap year = (year % 4 ≡ 0) × (year % 100 ≡ 0 → year % 400 ≡ 0)

-- the same as a test, which decides how long February is
abbrev pub is_leap : ℕ → Bool
is_leap year = year % 4 == 0 && (not (year % 100 == 0) || year % 400 == 0)

-- the lengths of the twelve months, January's first
abbrev pub lengths : ℕ → List ℕ
lengths year = 31 ∷ cond (is_leap year) 29 28 ∷ 31 ∷ 30 ∷ 31 ∷ 30 ∷ 31 ∷ 31 ∷ 30 ∷ 31 ∷ 30 ∷ 31 ∷ []

-- how many days a month has: none at 0 and past 12, where there is no such month
unfoldable pub days_of : ℕ → ℕ → ℕ
days_of year month = slice_index (0 ∷ lengths year) month

-- the date is in the calendar: its day is one of those that its month has
pub record Exists (d : Date) : Type 0 where
  pub from : 1 ≤ d.day
  pub to : d.day ≤ days_of d.year d.month

-- the last day of its month
abbrev pub Last : Date → Type 0
Last d = Exists d × (d.day ≡ days_of d.year d.month)

-- by the year, within a year by the month, and within a month by the day
abbrev pub Before : Date → Date → Type 0
Before d e =
    (d.year < e.year) ⊎ ((d.year ≡ e.year) × ((d.month < e.month) ⊎ ((d.month ≡ e.month) × (d.day < e.day))))

-- e is the first date of the calendar after d
pub record Tomorrow (d e : Date) : Type 0 where
  pub exists : Exists e
  pub after : Before d e
  pub first : (x : Date) → Exists x → Before d x → (e ≡ x) ⊎ Before e x

-- no date has two next days
abbrev pub OneNext : Type 0
OneNext = (d e f : Date) → Tomorrow d e → Tomorrow d f → e ≡ f

-- the last date whose year fits 16 bits
abbrev pub last_date : Date
last_date = record { year = 65535; month = 12; day = 31 }
