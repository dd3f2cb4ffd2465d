use Rattle.std.proofs.Common.{rules}
use Rattle.std.proofs.lemmas.List.{map-id}
use Rattle.std.proofs.lemmas.Iterator.{YieldsList-from_slice, YieldsList-from_map_by}
use Rattle.std.proofs.lemmas.Iterator.Consumers.{map_from_collect, YieldsList-at}
use Rattle.desk_sharing.specs.Figures.{told_by}
use Rattle.desk_sharing.proofs.figures.figures_of.Goals as goal

pub returns : goal.returns
returns c = rw map-id at (map_from_collect c.collect.result c.collect.ensures.ran (YieldsList-from_map_by _ told_by (λ z. z) (YieldsList-at c.map.ensures.source (YieldsList-from_slice c.args.values.now c.iter.ensures.rest)) c.map.ensures.closure (λ x r q k. search rules)))
