use Rattle.std.proofs.Common.{◌≡◌, ℕ, ◌<◌, ◌≤◌, map, length, nat_abs}
use Rattle.sharing.specs.Sharing.{at}
use Rattle.sharing.specs.Rows.{values}
use Rattle.sharing.specs.Steps.{total}
use Rattle.sharing.proofs.rows.read.Given as goal

abbrev pub invariant-loop-i : goal.invariant-loop-i
invariant-loop-i g l =
    let vs = map g.C.Claim.told l.claims in
    (l.i ≤ length l.claims) × (l.sum ≡ total l.i (λ k. nat_abs (at vs k))) × ((k : ℕ) → k < l.i → nat_abs (at vs k) ≤ 10000000000)
    × ((k : ℕ) → k < l.i → at (values l.rows) k ≡ at vs k)
