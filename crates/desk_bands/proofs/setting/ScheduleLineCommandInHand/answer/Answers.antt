use Rattle.std.proofs.Common.{sym, subst}
use Rattle.commands.specs.Replies.{text}
use Rattle.rules.specs.declared.rules.Either.TheVariants.{That}
use Rattle.desk_bands.specs.Setting.{ScheduleSet}
use Rattle.desk_bands.proofs.setting.ScheduleLineCommandInHand.answer.Goals as goal

pub returns-in_ok-format-in-Ok : goal.returns-in_ok-format-in-Ok
returns-in_ok-format-in-Ok c =
    subst (λ t. ScheduleSet c.args.self.now c.args.hand.now (That c.in-Ok.rule) (text t)) (sym c.in_ok-format-in-Ok.ensures.ok) (ScheduleSet.set _ (rw c.as_slice.ensures.value at c.in-Ok.ensures))

pub returns-in-Err-Refused : goal.returns-in-Err-Refused
returns-in-Err-Refused c =
    let is = c.in-Err-Refused.field-0-is in
    rw is (ScheduleSet.denied _ (rw (is, c.as_slice.ensures.value) at c.in-Err-Refused.ensures))
