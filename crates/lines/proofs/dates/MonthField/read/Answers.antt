use Rattle.std.proofs.Common.{◌≤◌, arith, rules}
use Rattle.lines.proofs.Calendar.{one_month}
use Rattle.lines.proofs.dates.MonthField.read.Goals as goal

pub returns-then-not-contains : goal.returns-then-not-contains
returns-then-not-contains c m h =
    let same = (one_month _ _ _ h.form (rw c.as_bytes.ensures.value at c.in_ok-month.ensures)).month in
    let from : 1 ≤ c.in_ok-month.month.month = omega (arith, same, h.from) in
    let to : c.in_ok-month.month.month ≤ 12 = omega (arith, same, h.to) in
    search rules
