use Rattle.std.proofs.Common.{Some, sym, subst}
use Rattle.commands.specs.Replies.{text}
use Rattle.rules.specs.declared.rules.Either.TheVariants.{This}
use Rattle.desk_bands.specs.Setting.{FixedSet}
use Rattle.desk_bands.proofs.setting.FixedLineCommandInHand.answer.Goals as goal

pub returns-in_ok-format-in-Ok : goal.returns-in_ok-format-in-Ok
returns-in_ok-format-in-Ok c =
    let r = This (record { value = Some c.in-Ok.bands }) in
    subst (λ t. FixedSet c.args.self.now c.args.hand.now r (text t)) (sym c.in_ok-format-in-Ok.ensures.ok) (FixedSet.set r (λ d. c.in-Ok.ensures))

pub returns-in-Err : goal.returns-in-Err
returns-in-Err c = FixedSet.denied _ c.in-Err.ensures
