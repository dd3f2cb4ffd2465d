use Rattle.lines.proofs.Exits.{pass}
use Rattle.desk_prices.proofs.series.SeriesLineCommandSeriesInHand.read.Goals as goal

pub returns-in_err-month : goal.returns-in_err-month
returns-in_err-month c = pass _ _ _ c.from_residual.result c.from_residual.ensures.1 c.in_err-month.ensures (λ x h. ((x.month, x.values), h))
