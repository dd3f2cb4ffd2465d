use Rattle.std.proofs.Common.{◌≡◌, ℕ, ◌<◌, ◌≤◌}
use Rattle.sharing.specs.Sharing.{at}
use Rattle.sharing.specs.Amounts.{size}
use Rattle.sharing.specs.Rows.{values}
use Rattle.sharing.proofs.rows.by_size.Given as goal

abbrev pub invariant-loop-row : goal.invariant-loop-row
invariant-loop-row l =
    ((k : ℕ) → k < l.row-index → at (values l.rows) k ≡ size (at (values l.initial.rows) k))
    × ((k : ℕ) → l.row-index ≤ k → at (values l.rows) k ≡ at (values l.initial.rows) k)
