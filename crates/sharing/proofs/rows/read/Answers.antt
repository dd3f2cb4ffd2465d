use Rattle.std.proofs.Common.{◌≡◌, ℕ, map, length, pos, nat_abs, ap, ◌∙◌, arith, below_more}
use Rattle.std.proofs.lemmas.List.{length-map}
use Rattle.sharing.specs.Sharing.{at}
use Rattle.sharing.specs.Limits.{many, large}
use Rattle.sharing.specs.Steps.{total}
use Rattle.sharing.specs.declared.rows.Row.{Row}
use Rattle.sharing.proofs.Sums.{total_more, total_most, sizes_is}
use Rattle.sharing.proofs.Columns.{value_at, column_more, column_all}
use Rattle.sharing.proofs.rows.read.Goals as goal

pub returns-then-claims-gt-MOST_CLAIMS : goal.returns-then-claims-gt-MOST_CLAIMS
returns-then-claims-gt-MOST_CLAIMS g c p q = many (rw length-map c.if-claims-gt-MOST_CLAIMS.true)

pub returns-then-size-gt-MOST_CLAIMED : goal.returns-then-size-gt-MOST_CLAIMED
returns-then-size-gt-MOST_CLAIMED g c p q =
    let f = g.C.Claim.told in
    let xs = c.args.claims.now in
    let i = c.loop-i.i in
    let e = value_at f xs i _ _ c.value-value.type_inv c.value-value.ensures c.loop-i-test.true c.index-claims-i.is in
    large (rw length-map c.if-claims-gt-MOST_CLAIMS.false) (i, omega (arith, length-map xs f), omega (arith, c.unsigned_abs-size.ensures.value, ap nat_abs e))

pub overflow_add-sum : goal.overflow_add-sum
overflow_add-sum g c = omega (arith, total_most c.loop-i.i 10000000000 _ c.loop-i.invariant.2)

pub loop-i-preserved : goal.loop-i-preserved
loop-i-preserved g c =
    let f = g.C.Claim.told in
    let xs = c.args.claims.now in
    let i = c.loop-i.i in
    let e = value_at f xs i _ _ c.value-value.type_inv c.value-value.ensures c.loop-i-test.true c.index-claims-i.is in
    let n = c.unsigned_abs-size.ensures.value ∙ ap nat_abs e in (
      omega arith,
      omega (arith, total_more (λ k. nat_abs (at (map f xs) k)) i, n),
      below_more _ _ c.loop-i.invariant.2 (omega (arith, n)),
      column_more {X = Row} (λ r. r.value) (pos 0) (at (map f xs)) c.loop-i.rows i _ (omega arith) c.loop-i.invariant.3 e,
    )

pub returns : goal.returns
returns g c =
    let f = g.C.Claim.told in
    let xs = c.args.claims.now in
    let e : c.loop-i.i ≡ length (map f xs) = omega (arith, length-map xs f) in (
      rw length-map c.if-claims-gt-MOST_CLAIMS.false,
      λ k l. c.loop-i.invariant.2 k (omega arith),
      c.loop-i.invariant.1 ∙ ap (λ (n : ℕ). total n (λ k. nat_abs (at (map f xs) k))) e ∙ sizes_is (map f xs),
      column_all {X = Row} (λ r. r.value) (pos 0) c.loop-i.rows (map f xs) (omega (arith, length-map xs f)) (λ k l. c.loop-i.invariant.3 k (omega arith)),
    )
