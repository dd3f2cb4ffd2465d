use Rattle.commands.specs.Replies.{keyed, unkeyed}
use Rattle.commands.proofs.topics.answer_by.Goals as goal

pub returns-in_ok-answer-in-Some : goal.returns-in_ok-answer-in-Some
returns-in_ok-answer-in-Some g c = keyed _ _ c.in-Some.ensures _ _ c.in_ok-answer-in-Some.ensures

pub returns-in-None : goal.returns-in-None
returns-in-None g c = unkeyed c.in-None.ensures
