use Rattle.std.proofs.Common.{◌≡◌, length, arith}
use Rattle.lines.proofs.Exits.{pass}
use Rattle.lines.proofs.Calendar.{month_bytes, month_back}
use Rattle.lines.proofs.dates.month_of.Goals as goal

pub returns-in_default : goal.returns-in_default
returns-in_default c m h = omega (arith, c.in_default.len_below, (month_bytes _ m h).long)

pub returns-in_default-2 : goal.returns-in_default-2
returns-in_default-2 c m h = omega (arith, c.in_default.len_at_least, (month_bytes _ m h).long)

pub returns-then-dash-ne45 : goal.returns-then-dash-ne45
returns-then-dash-ne45 c m h = c.if-dash-ne45.true (month_bytes _ m h).dash

pub returns-in_err-century : goal.returns-in_err-century
returns-in_err-century c = pass _ _ _ c.from_residual.result c.from_residual.ensures.1 c.in_err-century.ensures (λ m h. (_, (month_bytes _ m h).century))

pub returns-in_err-year : goal.returns-in_err-year
returns-in_err-year c = pass _ _ _ c.from_residual-in_err-year.result c.from_residual-in_err-year.ensures.1 c.in_err-year.ensures (λ m h. (_, (month_bytes _ m h).year))

pub returns-in_err-month : goal.returns-in_err-month
returns-in_err-month c = pass _ _ _ c.from_residual-in_err-month.result c.from_residual-in_err-month.ensures.1 c.in_err-month.ensures (λ m h. (_, (month_bytes _ m h).month))

pub returns : goal.returns
returns c =
    let long : length c.args.bytes.now ≡ 7 = omega (arith, c.in-len7.len_at_least, c.in-len7.len_below) in
    rw (c.from.ensures, c.from-2.ensures) (month_back _ _ _ _ long c.if-dash-ne45.false c.in_ok-century.ensures c.in_ok-year.ensures c.in_ok-month.ensures)
