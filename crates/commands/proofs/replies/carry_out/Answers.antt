use Rattle.std.proofs.lemmas.Result.{IfOk-weaker}
use Rattle.commands.specs.Replies.{done, unmeant}
use Rattle.commands.proofs.replies.carry_out.Goals as goal

pub returns-in-Ok : goal.returns-in-Ok
returns-in-Ok g c = IfOk-weaker c.answer.result _ _ (λ x h. done c.in-Ok.command c.in-Ok.ensures _ _ h) c.answer.ensures

pub returns-in-Err-Unreadable : goal.returns-in-Err-Unreadable
returns-in-Err-Unreadable g c = unmeant (rw c.in-Err-Unreadable.field-0-is at c.in-Err-Unreadable.ensures)
