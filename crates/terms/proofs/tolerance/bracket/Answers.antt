use Rattle.std.proofs.Common.{◌≡◌, ℕ, ◌+◌, ◌≤◌, ◌^◌, suc, zero, ltb, cond, drop, rules, tests, arith}
use Rattle.std.specs.List.{count_by}
use Rattle.std.proofs.lemmas.List.Sums.{count_by-le-length}
use Rattle.std.proofs.lemmas.Iterator.{YieldsList-from_slice, YieldsList-from_map}
use Rattle.std.proofs.lemmas.Iterator.Consumers.{sum_by_from_yields_List, fits_by_from_yields_list}
use Rattle.std.proofs.lemmas.Bool.Decides.{nat_tests}
use Rattle.terms.specs.Tolerance.{Ends}
use Rattle.terms.specs.declared.tolerance.TheConstants.{BRACKETS}
use Rattle.terms.proofs.tolerance.bracket.Goals as goal
use Rattle.terms.proofs.tolerance.bracket.Goals.{After-sum-above}

ends : (base n : ℕ) → n ≡ count_by (λ x. ltb x.0 base) (drop 1 BRACKETS) → Ends base (1 + n)
ends base zero e = record { first = omega arith; last = omega arith; above = λ h. omega arith; within = λ h. grind (arith, nat_tests) }
ends base (suc zero) e = record { first = omega arith; last = omega arith; above = λ h. grind (arith, nat_tests); within = λ h. grind (arith, nat_tests) }
ends base (suc (suc zero)) e = record { first = omega arith; last = omega arith; above = λ h. grind (arith, nat_tests); within = λ h. grind (arith, nat_tests) }
ends base (suc (suc (suc zero))) e = record { first = omega arith; last = omega arith; above = λ h. grind (arith, nat_tests); within = λ h. grind (arith, nat_tests) }
ends base (suc (suc (suc (suc zero)))) e = record { first = omega arith; last = omega arith; above = λ h. grind (arith, nat_tests); within = λ h. omega arith }
ends base (suc (suc (suc (suc (suc n))))) e = absurd (grind (arith, nat_tests))

-- one for an edge that the base is above, and nought for another
ones : ℕ → ℕ × ℕ → ℕ
ones base x = cond (ltb x.0 base) 1 0

-- at most four edges are passed
few : (base : ℕ) → count_by (λ x. ltb x.0 base) (drop 1 BRACKETS) ≤ 4
few base = count_by-le-length (λ (x : ℕ × ℕ). ltb x.0 base) (drop 1 BRACKETS)

pub sum-above-requires-clause-fits : goal.sum-above-requires-clause-fits
unfolding ones
sum-above-requires-clause-fits c =
    let base = c.args.base in
    fits_by_from_yields_list (ones base) (drop 1 BRACKETS) c.map.result (2 ^ 8)
    (YieldsList-from_map _ (ones base) (YieldsList-from_slice (drop 1 BRACKETS) cc) c.map.ensures.closure (λ x r q k. search (rules, tests))) (omega (arith, few base))

-- the edges below the base, as the sum has them
passed : (c : After-sum-above) → c.sum-above.result ≡ count_by (λ x. ltb x.0 c.args.base) (drop 1 BRACKETS)
unfolding ones
passed c =
    let base = c.args.base in
    sum_by_from_yields_List (ones base) (drop 1 BRACKETS) c.map.result c.sum-above.result c.sum-above.ensures.ran
    (YieldsList-from_map _ (ones base) (YieldsList-from_slice (drop 1 BRACKETS) cc) c.map.ensures.closure (λ x r q k. search (rules, tests)))

pub overflow_add-result : goal.overflow_add-result
overflow_add-result c = omega (arith, passed c, few c.args.base)

pub returns : goal.returns
returns c = ends c.args.base c.sum-above.result (passed c)
