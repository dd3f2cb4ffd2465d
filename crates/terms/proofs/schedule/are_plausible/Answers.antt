use Rattle.std.proofs.Common.{ℕ, ◌<◌, Bool, true, false, List, length, None, Option, MatchBool, rules, arith}
use Rattle.std.proofs.Math.IntN.{ℤ}
use Rattle.std.specs.List.{AllWithin, HoldsAt}
use Rattle.std.proofs.lemmas.Iterator.{YieldsList-from_slice, cases_from_all}
use Rattle.terms.specs.Schedule.{PlausibleOrNone, AllPlausible}
use Rattle.terms.proofs.schedule.are_plausible.Goals as goal

abbrev Implausible : Option ℤ → Type 0
Implausible f = PlausibleOrNone f → ⊥

by_places : (b : Bool) (fs : List (Option ℤ)) → MatchBool b (AllWithin PlausibleOrNone fs 0 (length fs)) ((k : ℕ) × (k < length fs) × HoldsAt Implausible fs k) → MatchBool b (AllPlausible fs) (AllPlausible fs → ⊥)
by_places true fs h = λ k l. h k None (omega arith) l
by_places false fs h = λ all. h.2 None (all h.0 h.1)

pub returns : goal.returns
returns c = by_places _ _ (cases_from_all _ _ _ PlausibleOrNone Implausible c.all.ensures.ran (YieldsList-from_slice c.args.forecasts.now cc) (λ x q k. search rules) (λ x q k. search rules))
