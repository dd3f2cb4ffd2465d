use Rattle.lines.proofs.Exits.{pass}
use Rattle.desk_prices.proofs.setting.FixedLineCommandPricesInHand.read.Goals as goal

pub returns-in_err-p1 : goal.returns-in_err-p1
returns-in_err-p1 c =
    pass _ _ _ c.from_residual.result c.from_residual.ensures.1 c.in_err-p1.ensures
    (λ x h. let f = x.figures in ((f.p1, (f.buy, (f.sell, (f.p3, tt)))), h))
