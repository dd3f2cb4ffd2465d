use Rattle.std.proofs.Common.{arith}
use Rattle.rules.proofs.Bounds.{div_mono, bounds}
use Rattle.rules.proofs.bands.Bands.exact.Goals as goal

pub invariant_of-result : goal.invariant_of-result
invariant_of-result c = record {
  lower = div_mono _ _ _ (omega arith) (omega arith);
  upper = grind (arith, bounds);
  low = grind (arith, bounds);
  high = grind (arith, bounds);
  limit = grind (arith, bounds);
}
