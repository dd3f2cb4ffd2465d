use Rattle.std.proofs.Common.{◌<◌, map, length, pos, sym, refl, ap, ◌∙◌, arith, w64, rules}
use Rattle.std.proofs.lemmas.List.{length-map}
use Rattle.std.proofs.lemmas.Int.{to_z-of_z}
use Rattle.sharing.specs.declared.rows.Row.{Row}
use Rattle.sharing.specs.Sharing.{at}
use Rattle.sharing.specs.Amounts.{size}
use Rattle.sharing.specs.Rows.{values}
use Rattle.sharing.proofs.Columns.{at_map, row_at, column_more, column_rest, column_all}
use Rattle.sharing.proofs.rows.by_size.Goals as goal

pub loop-row-preserved : goal.loop-row-preserved
loop-row-preserved c =
    let rs = c.loop-row.rows in
    let i = c.loop-row.row-index in
    let vs = values c.args.rows.now in
    let l : i < length rs = omega arith in
    let own = row_at (λ r. r.value) rs i vs l (c.loop-row.invariant.1 i (omega arith)) (search rules) in (
      column_more {X = Row} (λ r. r.value) (pos 0) (λ k. size (at vs k)) rs i _ l c.loop-row.invariant.0 (to_z-of_z w64 _ (search rules) ∙ c.abs-row.ensures.value ∙ ap size own),
      column_rest {X = Row} (λ r. r.value) (pos 0) (at vs) rs i _ c.loop-row.invariant.1,
    )

pub returns : goal.returns
returns c =
    let vs = values c.args.rows.now in
    let n = length-map {A = Row} c.args.rows.now (λ r. r.value) in
    let m = length-map vs size in
    column_all {X = Row} (λ r. r.value) (pos 0) c.loop-row.rows (map size vs) (omega arith) (λ k l. c.loop-row.invariant.0 k (omega arith) ∙ sym (at_map size refl vs k))
