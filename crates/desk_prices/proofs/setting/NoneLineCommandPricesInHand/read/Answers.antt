use Rattle.lines.proofs.Exits.{pass}
use Rattle.desk_prices.proofs.setting.NoneLineCommandPricesInHand.read.Goals as goal

pub returns-in_err-read : goal.returns-in_err-read
returns-in_err-read c = pass _ _ _ c.from_residual.result c.from_residual.ensures.1 c.in_err-read.ensures (λ x h. (tt, h))
