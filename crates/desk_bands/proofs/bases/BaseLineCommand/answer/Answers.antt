use Rattle.std.proofs.Common.{sym, refl, subst}
use Rattle.commands.specs.Replies.{text}
use Rattle.desk_bands.specs.Bases.{BaseSaid, based, denied}
use Rattle.desk_bands.proofs.bases.BaseLineCommand.answer.Goals as goal

pub returns-in_ok-format-in-Ok : goal.returns-in_ok-format-in-Ok
returns-in_ok-format-in-Ok g c =
    (refl, subst (λ t. BaseSaid c.args.self.now (text t)) (sym c.in_ok-format-in-Ok.ensures.ok) (based _ (rw c.as_slice.ensures.value at c.in-Ok.ensures)))

pub returns-in-Err : goal.returns-in-Err
returns-in-Err g c = (refl, denied _ (rw c.as_slice.ensures.value at c.in-Err.ensures))
