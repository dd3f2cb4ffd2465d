use Rattle.std.proofs.Common.{◌≡◌, ℕ, ◌<◌, ◌≤◌, neg_ℤ}
use Rattle.sharing.specs.Sharing.{at}
use Rattle.sharing.specs.Rows.{shares}
use Rattle.sharing.proofs.rows.sign_by.Given as goal

abbrev pub invariant-loop-row : goal.invariant-loop-row
invariant-loop-row l =
    ((k : ℕ) → k < l.row-index → at (shares l.rows) k ≡ neg_ℤ (at (shares l.initial.rows) k))
    × ((k : ℕ) → l.row-index ≤ k → at (shares l.rows) k ≡ at (shares l.initial.rows) k)
