use Rattle.std.proofs.Common.{◌^◌, ◌<◌, rules, arith}
use Rattle.std.specs.List.{zip, sum_by}
use Rattle.std.proofs.lemmas.Iterator.{YieldsList-from_slice, YieldsList-from_zip, YieldsList-from_map}
use Rattle.std.proofs.lemmas.Iterator.Consumers.{sum_by_from_yields_List, fits_by_from_yields_list}
use Rattle.terms.specs.Tolerance.{rates_of}
use Rattle.terms.specs.declared.tolerance.TheConstants.{BRACKETS}
use Rattle.terms.proofs.Tolerances.{standard_most, part, parts}
use Rattle.terms.proofs.tolerance.Perimeter.tolerance.Goals as goal

pub sum-sum-requires-clause-fits : goal.sum-sum-requires-clause-fits
sum-sum-requires-clause-fits c =
    let base = c.args.base in
    let p = c.args.self in
    let fits : sum_by (part base) (zip BRACKETS (rates_of p)) < 2 ^ 64 = rw (parts p base) (omega (arith, standard_most p base (omega arith))) in
    fits_by_from_yields_list (part base) (zip BRACKETS (rates_of p)) c.map.result (2 ^ 64)
    (YieldsList-from_map _ (part base) (YieldsList-from_zip (YieldsList-from_slice BRACKETS (cc)) (YieldsList-from_slice (rates_of p) (cc))) c.map.ensures.closure (λ x r q k. search rules)) fits

pub returns : goal.returns
returns c =
    let base = c.args.base in
    let p = c.args.self in
    let sum = sum_by_from_yields_List (part base) (zip BRACKETS (rates_of p)) c.map.result c.sum-sum.result c.sum-sum.ensures.ran
    (YieldsList-from_map _ (part base) (YieldsList-from_zip (YieldsList-from_slice BRACKETS (cc)) (YieldsList-from_slice (rates_of p) (cc))) c.map.ensures.closure (λ x r q k. search rules)) in
    (omega arith, rw (← parts p base) sum, c.bracket.ensures)
