use Rattle.lines.proofs.Exits.{pass}
use Rattle.desk_bands.proofs.bases.ToleranceLineCommand.read.Goals as goal

pub returns-in_err-perimeter : goal.returns-in_err-perimeter
returns-in_err-perimeter g c = pass _ _ _ c.from_residual.result c.from_residual.ensures.1 c.in_err-perimeter.ensures (λ x h. ((x.perimeter, (x.base, tt)), h))
