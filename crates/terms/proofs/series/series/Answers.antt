use Rattle.std.proofs.Common.{rules}
use Rattle.terms.specs.Series.{outside, uneven, above}
use Rattle.terms.proofs.series.series.Goals as goal

pub returns-in_err-ruled_days : goal.returns-in_err-ruled_days
returns-in_err-ruled_days c = search (rules, outside)

pub returns-then-from : goal.returns-then-from
returns-then-from c = search (rules, uneven)

pub returns-in_err-days : goal.returns-in_err-days
returns-in_err-days c = search (rules, above)
