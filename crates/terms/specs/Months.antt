-- The months that a rule can be made for.
use Rattle.std.specs.Prelude.{ℕ, ◌≤◌}
use Rattle.kinds.specs.Calendar.{days_of}
use Rattle.kinds.specs.declared.dates.Month.{Month}

-- a month of the calendar from January 2000 to December 2099
pub record Ruled (m : Month) : Type 0 where
  pub from : 2000 ≤ m.year
  pub to : m.year ≤ 2099
  pub january : 1 ≤ m.month
  pub december : m.month ≤ 12

-- how many days it has
abbrev pub days_in : Month → ℕ
days_in m = days_of m.year m.month
