use Rattle.std.proofs.Common.{None, rules, refl, sym, subst, ◌∙◌}
use Rattle.std.proofs.iter.runs.Made.{chains}
use Rattle.std.proofs.lemmas.Iterator.{YieldsList-from_slice}
use Rattle.std.proofs.lemmas.Iterator.Adapters.{serves_from_places}
use Rattle.std.proofs.lemmas.List.{get_or_default}
use Rattle.terms.specs.Schedule.{PlausibleOrNone, DayOf}
use Rattle.rules.specs.Monthly.{on_date}
use Rattle.terms.proofs.EachDay.{on_each, at_place}
use Rattle.terms.proofs.schedule.schedule.Goals as goal

pub collect-requires-clause-can : goal.collect-requires-clause-can
collect-requires-clause-can c =
    let fs = c.args.forecasts.now in (
      tt,
      serves_from_places (YieldsList-from_slice fs cc) (λ x q r. search rules) (λ x k l e.
          let p = subst PlausibleOrNone (get_or_default fs k None x.now l ∙ sym e) (c.in_ok-check.ensures.forecasts k l) in
          search rules),
    )

pub returns : goal.returns
returns c =
    let terms = c.args.terms in
    let fs = c.args.forecasts.now in
    let bs = c.in_ok-days.days.items in
    record {
      fit = c.in_ok-check.ensures;
      month = refl;
      days = on_each terms.month fs bs (λ d. DayOf terms (on_date terms.month fs d)) (λ d e. rw e tt) (record { long = search (rules, chains); each = λ k l. rw (at_place terms.month fs k) (search (rules, chains)) });
    }
