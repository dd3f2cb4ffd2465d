use Rattle.lines.proofs.Exits.{pass}
use Rattle.lines.proofs.Rows.{begins}
use Rattle.commands.proofs.rows.Tuple2Row.read.Goals as goal

pub returns-in_err-value : goal.returns-in_err-value
returns-in_err-value g c = pass _ _ _ c.from_residual.result c.from_residual.ensures.1 c.in_err-value.ensures (λ y h. (y.0, begins h))
