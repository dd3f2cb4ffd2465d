use Rattle.std.proofs.Common.{arith, rules}
use Rattle.terms.specs.Base.{month, series, range}
use Rattle.terms.proofs.base.base.Goals as goal

pub returns-in_err-ruled_days : goal.returns-in_err-ruled_days
returns-in_err-ruled_days c = search (rules, month)

pub returns-then-from : goal.returns-then-from
returns-then-from c = search (rules, series)

pub returns-then-sum-from : goal.returns-then-sum-from
returns-then-sum-from c = range (search rules) (search rules) c.largest.result c.largest.ensures (omega arith)
