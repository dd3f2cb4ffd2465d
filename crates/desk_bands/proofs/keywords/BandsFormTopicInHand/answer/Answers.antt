use Rattle.desk_bands.proofs.keywords.BandsFormTopicInHand.answer.Goals as goal

pub returns-in-Schedule : goal.returns-in-Schedule
returns-in-Schedule c = rw c.in-Schedule.is c.carry_out-in-Schedule.ensures
