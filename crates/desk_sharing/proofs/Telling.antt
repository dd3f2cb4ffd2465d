-- The claims that are made of the numbers of a line tell these.
use Rattle.std.proofs.Common.{◌≡◌, List, map, ℤ, ap, ◌∙◌}
use Rattle.sharing.specs.declared.claims.Stake.{Stake}
use Rattle.desk_sharing.specs.Figures.{told_by}

pub tell : {ms fs : List (Stake ℤ ℤ)} {vs xs : List ℤ} → ms ≡ fs → map told_by fs ≡ vs → vs ≡ xs → map told_by ms ≡ xs
tell e f g = ap (map told_by) e ∙ f ∙ g
