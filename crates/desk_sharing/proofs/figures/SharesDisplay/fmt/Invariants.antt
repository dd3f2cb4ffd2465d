use Rattle.std.proofs.Common.{map, take}
use Rattle.std.specs.Fmt.{IsPlainFormatter, HasWritten}
use Rattle.desk_sharing.specs.Figures.{held_by, listed}
use Rattle.desk_sharing.proofs.figures.SharesDisplay.fmt.Given as goal

abbrev pub invariant-loop-claim : goal.invariant-loop-claim
invariant-loop-claim g l = IsPlainFormatter l.initial.f → HasWritten g.W.Write.write_str_gives l.initial.f (listed (map held_by (take l.claim-index l.claim-items))) l.f
