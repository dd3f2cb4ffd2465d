-- The words that write a month and a date.
use Rattle.std.specs.Prelude.{◌≡◌, ℕ, ◌+◌, ◌<◌, ◌≤◌, List}
use Rattle.kinds.specs.declared.dates.Date.{Date}
use Rattle.kinds.specs.declared.dates.Month.{Month}
use Rattle.kinds.specs.Calendar.{Exists}
use Rattle.kinds.specs.Texts.{padded, monthly, dated}

-- a digit
abbrev pub Digit : ℕ → ℕ → Type 0
Digit b n = (n < 10) × (b ≡ 48 + n)

-- two digits
abbrev pub Pair : List ℕ → ℕ → Type 0
Pair w n = (n < 100) × (w ≡ padded n)

-- four digits, a dash and two digits
pub record Monthly (w : List ℕ) (m : Month) : Type 0 where
  pub year : m.year < 10000
  pub month : m.month < 100
  pub text : w ≡ monthly m.year m.month

-- and they are a month
pub record MonthWord (w : List ℕ) (m : Month) : Type 0 where
  pub form : Monthly w m
  pub from : 1 ≤ m.month
  pub to : m.month ≤ 12

-- four digits, two and two, with dashes between
pub record DateWord (w : List ℕ) (d : Date) : Type 0 where
  pub year : d.year < 10000
  pub month : d.month < 100
  pub day : d.day < 100
  pub text : w ≡ dated d

-- and they are a date of the calendar
pub record CalendarWord (w : List ℕ) (d : Date) : Type 0 where
  pub form : DateWord w d
  pub exists : Exists d
