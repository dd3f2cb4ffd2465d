use Rattle.std.proofs.Common.{rules}
use Rattle.terms.specs.Schedule.{month, series, range}
use Rattle.terms.proofs.schedule.Terms.check.Goals as goal

pub returns-in_err-ruled_days : goal.returns-in_err-ruled_days
returns-in_err-ruled_days c = search (rules, month)

pub returns-then-from : goal.returns-then-from
returns-then-from c = search (rules, series)

pub returns-then-not-are_sound : goal.returns-then-not-are_sound
returns-then-not-are_sound c = search (rules, range)
