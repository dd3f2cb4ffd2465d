use Rattle.std.proofs.Common.{rules, of_calls, refl}
use Rattle.std.specs.Fn.Refs.{fn_at_ref}
use Rattle.std.proofs.iter.runs.Sources.{ranges}
use Rattle.std.proofs.lemmas.Iterator.{serves_from_Range}
use Rattle.terms.proofs.price_rules.over.Goals as goal

pub collect-requires-clause-can : goal.collect-requires-clause-can
collect-requires-clause-can g c = (tt, serves_from_Range (λ x q r. search rules) (λ x l m. search (of_calls, fn_at_ref)))

pub returns : goal.returns
returns g c = (refl, search (rules, ranges))
