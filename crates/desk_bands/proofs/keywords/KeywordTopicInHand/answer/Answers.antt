use Rattle.desk_bands.proofs.keywords.KeywordTopicInHand.answer.Goals as goal

pub returns-in-Base : goal.returns-in-Base
returns-in-Base c = rw c.in-Base.is c.carry_out.ensures

pub returns-in-Tolerance : goal.returns-in-Tolerance
returns-in-Tolerance c = rw c.in-Tolerance.is c.carry_out-in-Tolerance.ensures

pub returns-in-Bands : goal.returns-in-Bands
returns-in-Bands c = rw c.in-Bands.is c.answer_chosen.ensures
