use Rattle.lines.proofs.Exits.{pass}
use Rattle.desk_bands.proofs.setting.FixedLineCommandInHand.read.Goals as goal

pub returns-in_err-lower_allowed : goal.returns-in_err-lower_allowed
returns-in_err-lower_allowed c =
    pass _ _ _ c.from_residual.result c.from_residual.ensures.1 c.in_err-lower_allowed.ensures
    (λ x h. let f = x.figures in ((f.lower_allowed, (f.lower_cumulable, (f.upper_cumulable, (f.upper_allowed, (f.carry_limit, tt))))), h))
