use Rattle.std.proofs.Common.{sym, refl, subst}
use Rattle.commands.specs.Replies.{text}
use Rattle.desk_bands.specs.Bases.{ToleranceSaid, given, denied}
use Rattle.desk_bands.proofs.bases.ToleranceLineCommand.answer.Goals as goal

pub returns-in_ok-format-in-Ok : goal.returns-in_ok-format-in-Ok
returns-in_ok-format-in-Ok g c =
    let h = c.in-Ok.ensures in
    (refl, subst (λ t. ToleranceSaid c.args.self.now (text t)) (sym (rw h.1 at c.in_ok-format-in-Ok.ensures.ok)) (given h.0 _ h.2))

pub returns-in-Err : goal.returns-in-Err
returns-in-Err g c = let h = c.in-Err.ensures in (refl, rw h.1 (denied h.0))
