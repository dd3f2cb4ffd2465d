use Rattle.lines.proofs.Exits.{pass}
use Rattle.desk_sharing.proofs.sharings.AmountLineCommandUnit.read.Goals as goal

pub returns-in_err-amount : goal.returns-in_err-amount
returns-in_err-amount c = pass _ _ _ c.from_residual.result c.from_residual.ensures.1 c.in_err-amount.ensures (λ x h. ((x.amount, x.weights), h))
