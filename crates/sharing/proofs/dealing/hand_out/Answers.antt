use Rattle.std.proofs.Common.{Bool, true, false, ◌≡◌, ℕ, ◌<◌, ltb, List, length, get_or, pos, ◌+ℤ◌, refl, ap, ◌∙◌, arith, w64, to_z, of_z, rules}
use Rattle.std.specs.Int.{from_bool}
use Rattle.std.proofs.Math.Seq.{map-set_same}
use Rattle.std.proofs.lemmas.Int.{ints}
use Rattle.sharing.specs.declared.rows.Row.{Row}
use Rattle.sharing.specs.Sharing.{at}
use Rattle.sharing.specs.Rows.{shares, remainders, rest_at}
use Rattle.sharing.specs.Steps.{bit, rank_of, due_of}
use Rattle.sharing.proofs.Ranks.{bit_most}
use Rattle.sharing.proofs.Columns.{nil, row_at, column_more, column_rest}
use Rattle.sharing.proofs.dealing.hand_out.Goals as goal

-- the rank os it was before any unit was handed out
same_rank : (rs os : List Row) (i : ℕ) → length rs ≡ length os → remainders rs ≡ remainders os → rank_of (length rs) (rest_at rs) i ≡ rank_of (length os) (rest_at os) i
same_rank rs os i e h = ap (λ n. rank_of n (rest_at rs) i) e ∙ ap (λ xs. rank_of (length os) (λ k. get_or xs k 0) i) h

-- a unit is a test as a number
unit_is : (b : Bool) → from_bool b ≡ bit b
unit_is true = refl
unit_is false = refl

pub loop-i-preserved : goal.loop-i-preserved
loop-i-preserved c =
    let rs = c.loop-i.rows in
    let os = c.args.rows.now in
    let i = c.loop-i.i in
    let l : i < length rs = omega arith in
    let own = row_at (λ r. r.share) rs i (shares os) l (c.loop-i.invariant.3 i (omega arith)) (search rules) in
    let rank = same_rank rs os i c.loop-i.auto.rows c.loop-i.invariant.1 in
    let unit : c.from.result ≡ pos (bit (ltb (rank_of (length os) (rest_at os) i) c.args.lacking)) = c.from.ensures ∙ ap pos (unit_is _) ∙ ap (λ n. pos (bit (ltb n c.args.lacking))) (c.rank.ensures ∙ rank) in
    let most = bit_most (ltb (rank_of (length os) (rest_at os) i) c.args.lacking) in
    let small = c.requires i (omega arith) in
    let due : to_z w64 (of_z w64 (to_z w64 (of_z w64 (get_or rs i nil).share) +ℤ to_z w64 (of_z w64 c.from.result))) ≡ due_of (length os) (at (shares os)) (rest_at os) c.args.lacking i = omega (arith, ints) in (
      map-set_same {A = Row} (λ r. r.value) rs i _ nil refl ∙ c.loop-i.invariant.0,
      map-set_same {A = Row} (λ r. r.rest) rs i _ nil refl ∙ c.loop-i.invariant.1,
      column_more {X = Row} (λ r. r.share) (pos 0) (due_of (length os) (at (shares os)) (rest_at os) c.args.lacking) rs i _ l c.loop-i.invariant.2 due,
      column_rest {X = Row} (λ r. r.share) (pos 0) (at (shares os)) rs i _ c.loop-i.invariant.3,
    )
