use Rattle.std.proofs.Common.{refl}
use Rattle.std.proofs.lemmas.Result.{IfOk-weaker}
use Rattle.desk_prices.proofs.keywords.KeywordTopicPricesInHand.answer.Goals as goal

pub returns-in-Reference : goal.returns-in-Reference
returns-in-Reference c = rw c.in-Reference.is (IfOk-weaker c.carry_out.result _ _ (λ x h. (h, refl)) c.carry_out.ensures)

pub returns-in-Hub : goal.returns-in-Hub
returns-in-Hub c = rw c.in-Hub.is (IfOk-weaker c.carry_out-in-Hub.result _ _ (λ x h. (h, refl)) c.carry_out-in-Hub.ensures)

pub returns-in-Supplement : goal.returns-in-Supplement
returns-in-Supplement c = rw c.in-Supplement.is (IfOk-weaker c.carry_out-in-Supplement.result _ _ (λ x h. (h, refl)) c.carry_out-in-Supplement.ensures)

pub returns-in-Prices : goal.returns-in-Prices
returns-in-Prices c = rw c.in-Prices.is c.answer_chosen.ensures
