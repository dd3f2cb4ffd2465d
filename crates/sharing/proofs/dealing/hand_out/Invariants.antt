use Rattle.std.proofs.Common.{◌≡◌, ℕ, ◌<◌, ◌≤◌, length}
use Rattle.sharing.specs.Sharing.{at}
use Rattle.sharing.specs.Rows.{values, shares, remainders, rest_at}
use Rattle.sharing.specs.Steps.{due_of}
use Rattle.sharing.proofs.dealing.hand_out.Given as goal

abbrev pub invariant-loop-i : goal.invariant-loop-i
invariant-loop-i l =
    (values l.rows ≡ values l.initial.rows) × (remainders l.rows ≡ remainders l.initial.rows)
    × ((k : ℕ) → k < l.i → at (shares l.rows) k ≡ due_of (length l.initial.rows) (at (shares l.initial.rows)) (rest_at l.initial.rows) l.lacking k)
    × ((k : ℕ) → l.i ≤ k → at (shares l.rows) k ≡ at (shares l.initial.rows) k)
