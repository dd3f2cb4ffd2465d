use Rattle.std.proofs.Common.{◌≡◌, ℕ, Bool, true, false, ltb, eqb, cond, List, length, get_or, ◌<◌, ◌^◌, refl, arith, ◌∙◌, rules, tests}
use Rattle.std.specs.List.{count_by, enumerate_from}
use Rattle.std.proofs.lemmas.List.{get_or-map}
use Rattle.std.proofs.lemmas.List.FromFn.{length-enumerate_from}
use Rattle.std.proofs.lemmas.List.Sums.{count_by-le-length}
use Rattle.std.proofs.lemmas.Iterator.{YieldsList-from_slice, YieldsList-from_map}
use Rattle.std.proofs.lemmas.Iterator.Consumers.{YieldsList-from_enumerate, YieldsList-at, sum_by_from_yields_List, fits_by_from_yields_list}
use Rattle.sharing.specs.declared.rows.Row.{Row}
use Rattle.sharing.specs.Rows.{rest_at}
use Rattle.sharing.specs.Steps.{ahead, rank_of}
use Rattle.sharing.proofs.Sums.{count_is}
use Rattle.sharing.proofs.Columns.{nil}
use Rattle.sharing.proofs.dealing.rank.Goals as goal

-- whether a row comes before the place i, with the remainder own
ahead_of : ℕ → ℕ → ℕ × Row → Bool
ahead_of own i p = cond (ltb own p.1.rest) true (cond (eqb p.1.rest own) (ltb p.0 i) false)

-- as one or nought
ones : ℕ → ℕ → ℕ × Row → ℕ
ones own i p = cond (ahead_of own i p) 1 0

ranked : (rs : List Row) (i : ℕ) → i < length rs → count_by (ahead_of (get_or rs i nil).rest i) (enumerate_from 0 rs) ≡ rank_of (length rs) (rest_at rs) i
unfolding ahead_of
ranked rs i l = count_is (ahead_of (get_or rs i nil).rest i) (λ j. ahead (rest_at rs) j i) rs 0 (λ k m d e h.
    let j : m ≡ k = omega arith in
    rw (j, ← get_or-map {X = Row} (λ r. r.rest) rs k d 0 h, ← get_or-map {X = Row} (λ r. r.rest) rs i nil 0 l) refl)

pub sum-requires-clause-fits : goal.sum-requires-clause-fits
unfolding ahead_of ones
sum-requires-clause-fits c =
    let rs = c.args.rows.now in
    let own = (get_or rs c.args.i nil).rest in
    let test = ahead_of own c.args.i in
    let fits : count_by test (enumerate_from 0 rs) < 2 ^ 64 = omega (arith, count_by-le-length test (enumerate_from 0 rs), length-enumerate_from 0 rs) in
    fits_by_from_yields_list (ones own c.args.i) (enumerate_from 0 rs) c.map.result (2 ^ 64)
    (YieldsList-from_map _ (ones own c.args.i) (YieldsList-at c.map.ensures.source (YieldsList-from_enumerate (YieldsList-at c.enumerate.ensures.source (YieldsList-from_slice rs cc)) (cc))) c.map.ensures.closure (λ x r q k. search (rules, tests))) fits

pub returns : goal.returns
unfolding ahead_of ones
returns c =
    let rs = c.args.rows.now in
    let i = c.args.i in
    let own = (get_or rs i nil).rest in
    let e = sum_by_from_yields_List (ones own i) (enumerate_from 0 rs) c.map.result c.sum.result c.sum.ensures.ran
    (YieldsList-from_map _ (ones own i) (YieldsList-at c.map.ensures.source (YieldsList-from_enumerate (YieldsList-at c.enumerate.ensures.source (YieldsList-from_slice rs cc)) (cc))) c.map.ensures.closure (λ x r q k. search (rules, tests))) in
    e ∙ ranked rs i c.requires
