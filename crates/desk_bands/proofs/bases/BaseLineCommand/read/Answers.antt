use Rattle.lines.proofs.Exits.{pass}
use Rattle.desk_bands.proofs.bases.BaseLineCommand.read.Goals as goal

pub returns-in_err-month : goal.returns-in_err-month
returns-in_err-month g c = pass _ _ _ c.from_residual.result c.from_residual.ensures.1 c.in_err-month.ensures (λ x h. ((x.month, (x.capacity, (x.monthly, x.allocations))), h))
