use Rattle.std.proofs.Common.{Some, sym, subst}
use Rattle.commands.specs.Replies.{text}
use Rattle.rules.specs.declared.rules.Either.TheVariants.{This}
use Rattle.desk_prices.specs.Hand.{with_rule}
use Rattle.desk_prices.specs.Setting.{FixedSet}
use Rattle.desk_prices.proofs.setting.FixedLineCommandPricesInHand.answer.Goals as goal

pub returns-in_ok-format-in-Ok : goal.returns-in_ok-format-in-Ok
returns-in_ok-format-in-Ok c =
    let r = This (record { value = Some c.in-Ok.prices }) in
    subst (λ t. FixedSet c.args.self.now c.args.hand.now (with_rule r c.args.hand.now) (text t)) (sym c.in_ok-format-in-Ok.ensures.ok) (FixedSet.set r (λ d. c.in-Ok.ensures))

pub returns-in-Err : goal.returns-in-Err
returns-in-Err c = FixedSet.denied _ c.in-Err.ensures
