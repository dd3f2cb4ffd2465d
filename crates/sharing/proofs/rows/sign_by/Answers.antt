use Rattle.std.proofs.Common.{◌≡◌, ◌<◌, map, length, get_or, pos, ◌-ℤ◌, neg_ℤ, sym, ◌∙◌, arith, w64, to_z, of_z, rules}
use Rattle.std.proofs.lemmas.List.{length-map}
use Rattle.std.proofs.lemmas.Int.{ints}
use Rattle.sharing.specs.declared.rows.Row.{Row}
use Rattle.sharing.specs.Sharing.{at}
use Rattle.sharing.specs.Amounts.{signed}
use Rattle.sharing.specs.Rows.{shares}
use Rattle.sharing.proofs.Columns.{nil, at_map, row_at, column_more, column_rest, column_all}
use Rattle.sharing.proofs.Signs.{signed_nil, signed_below, signed_above}
use Rattle.sharing.proofs.rows.sign_by.Goals as goal

pub loop-row-preserved : goal.loop-row-preserved
loop-row-preserved c =
    let rs = c.loop-row.rows in
    let i = c.loop-row.row-index in
    let ss = shares c.args.rows.now in
    let l : i < length rs = omega arith in
    let own = row_at (λ r. r.share) rs i ss l (c.loop-row.invariant.1 i (omega arith)) (search rules) in
    let low = c.requires i in
    let turned : to_z w64 (of_z w64 (pos 0 -ℤ to_z w64 (of_z w64 (get_or rs i nil).share))) ≡ neg_ℤ (at ss i) = omega (arith, ints) in (
      column_more {X = Row} (λ r. r.share) (pos 0) (λ k. neg_ℤ (at ss k)) rs i _ l c.loop-row.invariant.0 turned,
      column_rest {X = Row} (λ r. r.share) (pos 0) (at ss) rs i _ c.loop-row.invariant.1,
    )

pub returns-after-loop-row : goal.returns-after-loop-row
returns-after-loop-row c =
    let a = c.args.amount in
    let ss = shares c.args.rows.now in
    let n = length-map {A = Row} c.args.rows.now (λ r. r.share) in
    let m = length-map ss (signed a) in
    column_all {X = Row} (λ r. r.share) (pos 0) c.loop-row.rows (map (signed a) ss) (omega arith)
    (λ k l. c.loop-row.invariant.0 k (omega arith) ∙ sym (signed_below a (at ss k) (omega (arith, ints))) ∙ sym (at_map (signed a) (signed_nil a) ss k))

pub returns-else-amount-lt0 : goal.returns-else-amount-lt0
returns-else-amount-lt0 c = sym (signed_above c.args.amount (shares c.args.rows.now) (omega (arith, ints)))
