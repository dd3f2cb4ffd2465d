use Rattle.std.proofs.Common.{◌≡◌, ℕ, ◌<◌, ◌≤◌, get_or}
use Rattle.sharing.specs.Sharing.{at}
use Rattle.sharing.specs.Rows.{shares}
use Rattle.sharing.proofs.rows.give.Given as goal

abbrev pub invariant-loop-i : goal.invariant-loop-i
invariant-loop-i g l =
    ((k : ℕ) (d : g.row.C.Denot) → k < l.i → get_or l.claims k d ≡ g.C.Claim.taking (get_or l.initial.claims k d) (at (shares l.rows) k))
    × ((k : ℕ) (d : g.row.C.Denot) → l.i ≤ k → get_or l.claims k d ≡ get_or l.initial.claims k d)
