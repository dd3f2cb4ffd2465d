use Rattle.std.proofs.Common.{rules, refl, arith}
use Rattle.std.proofs.lemmas.Result.{IfOk-weaker}
use Rattle.terms.proofs.EachDay.{over_month}
use Rattle.terms.proofs.price_rules.rule_2012.Goals as goal

pub returns : goal.returns
returns c =
    let r = c.args.reference.now in
    let s = c.args.supplement.now in
    IfOk-weaker c.over.result _ _ (λ m. over_month r _ _ c.len.result m (omega (arith, r.days.ok.0)) (λ d e. rw e refl) (λ k o h. search rules)) c.over.ensures
