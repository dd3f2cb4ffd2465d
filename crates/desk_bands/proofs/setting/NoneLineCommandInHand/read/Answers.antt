use Rattle.lines.proofs.Exits.{pass}
use Rattle.desk_bands.proofs.setting.NoneLineCommandInHand.read.Goals as goal

pub returns-in-err-read : goal.returns-in-err-read
returns-in-err-read c = pass _ _ _ c.from-residual.result c.from-residual.ensures.1 c.in-err-read.ensures (λ x h. (tt, h))
