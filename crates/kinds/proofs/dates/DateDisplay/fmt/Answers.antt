use Rattle.std.proofs.Common.{◌<◌, ◌^◌, append_assoc, refl, rules}
use Rattle.std.proofs.Output.{has_written_of_eq}
use Rattle.kinds.proofs.Digits.{two_digits, four_digits}
use Rattle.kinds.proofs.dates.DateDisplay.fmt.Goals as goal

pub returns-clause-writes : goal.returns-clause-writes
returns-clause-writes g c p q =
    let d = c.args.self.now in
    let year : d.year < 2 ^ 64 = search rules in
    let month : d.month < 2 ^ 64 = search rules in
    let day : d.day < 2 ^ 64 = search rules in
    has_written_of_eq _ _ _ _ _ (rw (four_digits _ _ c.laid_out.ensures year, two_digits _ _ c.laid_out-2.ensures month, two_digits _ _ c.laid_out-3.ensures day) (simp append_assoc refl)) (c.write.ensures.writes p q)
