use Rattle.std.proofs.Common.{refl, sym, ap, ◌∙◌}
use Rattle.commands.specs.Replies.{text}
use Rattle.desk_prices.specs.Asking.{shown, figured}
use Rattle.desk_prices.proofs.asking.AskLineCommandPricesInHand.answer.Goals as goal

pub returns-in_default : goal.returns-in_default
returns-in_default c = record {
  kept = λ d. ap (λ f. f d) c.ask.ensures.kept;
  stays = refl;
  said = ap text (c.in_ok-format.ensures.ok ∙ ap shown (sym c.in_default.is ∙ c.ask.ensures.answer));
}

pub returns : goal.returns
returns c = record {
  kept = λ d. ap (λ f. f d) c.ask.ensures.kept;
  stays = refl;
  said = ap text (c.in_ok-format-2.ensures.ok ∙ ap figured c.from-p1.ensures ∙ ap shown (sym c.in-Some.is ∙ c.ask.ensures.answer));
}
