use Rattle.desk_prices.proofs.keywords.PricesFormTopicPricesInHand.answer.Goals as goal

pub returns-in-Fixed : goal.returns-in-Fixed
returns-in-Fixed c = rw c.in-Fixed.is c.carry_out-in-Fixed.ensures

pub returns-in-Of2008 : goal.returns-in-Of2008
returns-in-Of2008 c = rw c.in-Of2008.is c.carry_out-in-Of2008.ensures
