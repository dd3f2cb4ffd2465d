use Rattle.std.proofs.Common.{arith}
use Rattle.lines.proofs.Exits.{pass}
use Rattle.lines.proofs.Calendar.{month_of, date_bytes}
use Rattle.lines.proofs.dates.date_of.Goals as goal

pub returns-in_default : goal.returns-in_default
returns-in_default c d h = omega (arith, c.in_default.len_below, (date_bytes _ d h).long)

pub returns-then-dash-ne45 : goal.returns-then-dash-ne45
returns-then-dash-ne45 c d h = let k = date_bytes _ d h in (rw k.long at c.if-dash-ne45.true) k.dash

pub returns-in_err-year : goal.returns-in_err-year
returns-in_err-year c = pass _ _ _ c.from_residual.result c.from_residual.ensures.1 c.in_err-year.ensures (λ d h. let k = date_bytes _ d h in (month_of d, rw k.long k.month))

pub returns-in_err-day : goal.returns-in_err-day
returns-in_err-day c = pass _ _ _ c.from_residual-in_err-day.result c.from_residual-in_err-day.ensures.1 c.in_err-day.ensures (λ d h. let k = date_bytes _ d h in (d.day, rw k.long k.day))
