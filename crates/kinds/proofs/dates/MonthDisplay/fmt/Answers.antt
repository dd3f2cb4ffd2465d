use Rattle.std.proofs.Common.{◌<◌, ◌^◌, ◌/◌, append_assoc, rules}
use Rattle.std.proofs.Output.{has_written_of_eq}
use Rattle.kinds.specs.Texts.{padded}
use Rattle.kinds.proofs.Digits.{two_digits, four_digits}
use Rattle.kinds.proofs.dates.MonthDisplay.fmt.Goals as goal

pub returns-clause-writes : goal.returns-clause-writes
returns-clause-writes g c p q =
    let small : c.args.self.now.year < 2 ^ 64 = search rules in
    let low : c.args.self.now.month < 2 ^ 64 = search rules in
    let y = four_digits _ _ c.laid_out.ensures small in
    let m = two_digits _ _ c.laid_out-2.ensures low in
    has_written_of_eq _ _ _ _ _ (rw (y, m) (append_assoc (padded (c.args.self.now.year / 100)) _ _)) (c.write.ensures.writes p q)
