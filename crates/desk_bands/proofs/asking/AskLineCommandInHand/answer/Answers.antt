use Rattle.std.proofs.Common.{sym, ap, ◌∙◌}
use Rattle.commands.specs.Replies.{text}
use Rattle.desk_bands.specs.Asking.{shown, figured}
use Rattle.desk_bands.proofs.asking.AskLineCommandInHand.answer.Goals as goal

pub returns-in_default : goal.returns-in_default
returns-in_default c = (λ d. ap (λ f. f d) c.ask.ensures.kept, ap text (c.in_ok-format.ensures.ok ∙ ap shown (sym c.in_default.is ∙ c.ask.ensures.answer)))

pub returns : goal.returns
returns c = (
  λ d. ap (λ f. f d) c.ask.ensures.kept,
  ap text (c.in_ok-format-2.ensures.ok ∙ ap figured c.from-lower_allowed.ensures ∙ ap shown (sym c.in-Some.is ∙ c.ask.ensures.answer)),
)
