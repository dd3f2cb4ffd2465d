use Rattle.lines.proofs.Exits.{pass}
use Rattle.desk_prices.proofs.asking.AskLineCommandPricesInHand.read.Goals as goal

pub returns-in_err-date : goal.returns-in_err-date
returns-in_err-date c = pass _ _ _ c.from_residual.result c.from_residual.ensures.1 c.in_err-date.ensures (λ x h. ((x.date, tt), h))
