use Rattle.lines.proofs.Exits.{pass}
use Rattle.lines.proofs.Digits.{two, tens, units}
use Rattle.lines.proofs.dates.two_digits.Goals as goal

pub returns-in_err-digit : goal.returns-in_err-digit
returns-in_err-digit c = pass _ _ _ c.from_residual.result c.from_residual.ensures.1 c.in_err-digit.ensures (λ n h. (_, tens _ _ n h))

pub returns-in_err-digit-2 : goal.returns-in_err-digit-2
returns-in_err-digit-2 c = pass _ _ _ c.from_residual-in_err-digit-2.result c.from_residual-in_err-digit-2.ensures.1 c.in_err-digit-2.ensures (λ n h. (_, units _ _ n h))

pub returns : goal.returns
returns c = two _ _ _ _ c.in_ok-digit.ensures c.in_ok-digit-2.ensures
