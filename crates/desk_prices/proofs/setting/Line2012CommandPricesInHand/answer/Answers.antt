use Rattle.std.proofs.Common.{sym, subst}
use Rattle.std.proofs.lemmas.Option.{none-some}
use Rattle.commands.specs.Replies.{text}
use Rattle.rules.specs.declared.rules.Either.TheVariants.{That}
use Rattle.desk_prices.specs.Hand.{with_rule}
use Rattle.desk_prices.specs.Setting.{Set2012}
use Rattle.desk_prices.proofs.setting.Line2012CommandPricesInHand.answer.Goals as goal
use Rattle.desk_prices.proofs.setting.Line2012CommandPricesInHand.answer.Goals.{in_default-via-in-Some+in_default, in_default-via-in_default}

pub returns-in_default : goal.returns-in_default
returns-in_default c = elim c.in_default.branch [
  | in_default-via-in-Some+in_default w ↦ rw w.hand-is (Set2012.lacking (λ r s g. none-some _ (rw w.in_default.is-1 at g.supplement)))
  | in_default-via-in_default w ↦ rw w.hand-is (Set2012.lacking (λ r s g. none-some _ (rw w.in_default.is-0 at g.reference)))
]

pub returns : goal.returns
returns c =
    let h = c.args.hand.now in
    let r = That c.in_ok-rule_2012.field-0 in
    subst (λ t. Set2012 h (with_rule r h) (text t)) (sym c.in_ok-format.ensures.ok) (Set2012.set _ _ (record { reference = c.in-Some-Some.is-0; supplement = c.in-Some-Some.is-1 }) _ c.in_ok-rule_2012.ensures)
