use Rattle.std.proofs.Common.{None, refl, sym, subst}
use Rattle.commands.specs.Replies.{text}
use Rattle.rules.specs.declared.rules.Either.TheVariants.{This}
use Rattle.desk_prices.specs.Hand.{with_rule}
use Rattle.desk_prices.specs.Setting.{NoneSet}
use Rattle.desk_prices.proofs.setting.NoneLineCommandPricesInHand.answer.Goals as goal

pub returns : goal.returns
returns c =
    let r = This (record { value = None }) in
    subst (λ t. NoneSet c.args.hand.now (with_rule r c.args.hand.now) (text t)) (sym c.in_ok-format.ensures.ok) (NoneSet.set r (λ d. refl))
