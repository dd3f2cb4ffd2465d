use mathlib.Core.Path.{refl}
use Rattle.figures.proofs.Shares.{positions, thirds, halves}
use Rattle.figures.proofs.figures.Goals as goal

pub returns : goal.returns
returns c = record { positions = positions; thirds = thirds; halves = halves; tolerances = (refl, refl, refl); banding = refl; buying = λ s. refl }
