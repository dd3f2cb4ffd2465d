use Rattle.std.proofs.Common.{◌≡◌, ℕ, ◌<◌}
use Rattle.sharing.specs.Sharing.{at}
use Rattle.sharing.specs.Rows.{values, shares, rest_at}
use Rattle.sharing.specs.Steps.{sum_to, total, floors, rests}
use Rattle.sharing.proofs.dealing.divide.Given as goal

abbrev pub invariant-loop-row : goal.invariant-loop-row
invariant-loop-row l =
    let vs = values l.initial.rows in
    (values l.rows ≡ vs)
    × ((k : ℕ) → k < l.row-index → at (shares l.rows) k ≡ floors l.fraction.p l.fraction.q vs k)
    × ((k : ℕ) → k < l.row-index → rest_at l.rows k ≡ rests l.fraction.p l.fraction.q vs k)
    × (l.floor_sum ≡ sum_to l.row-index (floors l.fraction.p l.fraction.q vs))
    × (l.rest_sum ≡ total l.row-index (rests l.fraction.p l.fraction.q vs))
