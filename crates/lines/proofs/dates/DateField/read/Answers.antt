use Rattle.std.proofs.Common.{subst}
use Rattle.kinds.specs.Calendar.{Exists}
use Rattle.lines.proofs.Calendar.{one_date}
use Rattle.lines.proofs.dates.DateField.read.Goals as goal

pub returns-then-not-exists : goal.returns-then-not-exists
returns-then-not-exists c x h = c.if-not-exists.ensures (subst Exists (one_date _ _ _ h.form (rw c.as_bytes.ensures.value at c.in_ok-date.ensures)) h.exists)
