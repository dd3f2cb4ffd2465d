-- How a month, a date and a refusal are written.
use Rattle.std.specs.Prelude.{ℕ, ◌/◌, ◌%◌, List, [], ◌++◌, Some, None, codes, decimal, Option}
use Rattle.kinds.specs.declared.dates.Date.{Date}
use Rattle.kinds.specs.declared.refusals.Refusal.{Refusal}
use Rattle.kinds.specs.Refusals.{number_of, date_of, offset_of, reason_of}

-- a number with two digits at least
abbrev pub padded : ℕ → List ℕ
padded n = decimal (n / 10) ++ decimal (n % 10)

-- YYYY-MM
abbrev pub monthly : ℕ → ℕ → List ℕ
monthly year month = padded (year / 100) ++ (padded (year % 100) ++ (codes "-" ++ padded month))

-- YYYY-MM-DD
abbrev pub dated : Date → List ℕ
dated d = monthly d.year d.month ++ (codes "-" ++ padded d.day)

-- the day or else the place in a file, where there is one, after a blank
abbrev pub placed : Option Date → Option ℕ → List ℕ
placed (Some d) o = codes " " ++ dated d
placed None (Some n) = codes " at " ++ decimal n
placed None None = []

-- the number, the day or the place where it has one, and the reason
abbrev pub grounded : Refusal → List ℕ
grounded r = decimal (number_of r) ++ (placed (date_of r) (offset_of r) ++ (codes " " ++ reason_of r))
