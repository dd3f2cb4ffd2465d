use Rattle.lines.proofs.Exits.{pass}
use Rattle.desk_sharing.proofs.sharings.ShareLineCommandUnit.read.Goals as goal

pub returns-in_err-p : goal.returns-in_err-p
returns-in_err-p c = pass _ _ _ c.from_residual.result c.from_residual.ensures.1 c.in_err-p.ensures (λ x h. ((x.fraction.p, (x.fraction.q, x.claims)), h))
