use Rattle.std.proofs.Common.{◌≡◌, map, take}
use Rattle.terms.specs.Series.{value_of}
use Rattle.terms.proofs.series.prices_of.Given as goal

abbrev pub invariant-loop-value : goal.invariant-loop-value
invariant-loop-value l = map value_of l.days.items ≡ take l.value-index l.values
