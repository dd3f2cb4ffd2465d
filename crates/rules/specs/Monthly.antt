-- The value of a date, where there is one for each day of a month or none.
use Rattle.std.specs.Prelude.{◌-◌, ◌&&◌, List, None, Option, ◌==◌, nat_lt, slice_index_or, if◌then◌else◌}
use Rattle.kinds.specs.declared.dates.Date.{Date}
use Rattle.kinds.specs.declared.dates.Month.{Month}

-- none outside the month, and none past the last value
abbrev pub on_date : {T : Type 0} → Month → List (Option T) → Date → Option T
on_date m xs d = if d.year == m.year && (d.month == m.month && nat_lt 0 d.day) then slice_index_or xs (d.day - 1) None else None
