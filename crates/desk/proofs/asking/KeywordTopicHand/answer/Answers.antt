use Rattle.std.proofs.Common.{◌≡◌, refl}
use Rattle.desk.specs.declared.asking.Keyword.{Keyword}
use Rattle.desk.specs.declared.asking.Keyword.TheVariants.{Ask}
use Rattle.desk.proofs.asking.KeywordTopicHand.answer.Goals as goal

-- there is one keyword
one : (k : Keyword) → k ≡ Ask
one Ask = refl

pub returns : goal.returns
returns c = rw (one c.args.self) c.answer_chosen.ensures
