-- What each ground of refusal is known by: its number, the date or the offset that it comes with, its reason.
use Rattle.std.specs.Prelude.{ℕ, List, Some, None, codes, Option}
use Rattle.kinds.specs.declared.dates.Date.{Date}
use Rattle.kinds.specs.declared.refusals.Refusal.{Refusal}
use Rattle.kinds.specs.declared.refusals.Refusal.TheVariants.{Ended, LifeOver, WrongCount, NoSuchMember, WrongOpening, WrongMonth, WrongSeries, MonthAwaits, EndowmentOwed, NothingToClose, BeforeTwentieth, DaysNotClosed, OtherEndowment, EndowmentMissing, ReadingTooLarge, ReadingsTooLarge, MoveAboveLevel, MoveAboveSlope, NoBands, NoPrices, CarriedTooLarge, TooManyClaims, ClaimTooLarge, NumeratorTooLarge, DenominatorOutOfRange, ProductTooLarge, NoWeight, TermOutOfRange, BandOrder, BrokenFile, StatementTooLong}

abbrev pub number_of : Refusal → ℕ
number_of Ended = 1
number_of LifeOver = 1
number_of WrongCount = 2
number_of NoSuchMember = 2
number_of WrongOpening = 2
number_of WrongMonth = 2
number_of WrongSeries = 2
number_of MonthAwaits = 3
number_of EndowmentOwed = 3
number_of NothingToClose = 3
number_of BeforeTwentieth = 3
number_of DaysNotClosed = 3
number_of OtherEndowment = 4
number_of EndowmentMissing = 4
number_of (ReadingTooLarge _) = 5
number_of (ReadingsTooLarge _) = 6
number_of (MoveAboveLevel _) = 7
number_of (MoveAboveSlope _) = 8
number_of (NoBands _) = 9
number_of (NoPrices _) = 10
number_of (CarriedTooLarge _) = 11
number_of TooManyClaims = 12
number_of ClaimTooLarge = 12
number_of NumeratorTooLarge = 12
number_of DenominatorOutOfRange = 12
number_of ProductTooLarge = 12
number_of NoWeight = 12
number_of TermOutOfRange = 13
number_of BandOrder = 13
number_of (BrokenFile _) = 14
number_of StatementTooLong = 15

-- the day in question, at the grounds that belong to a day
abbrev pub date_of : Refusal → Option Date
date_of Ended = None
date_of LifeOver = None
date_of WrongCount = None
date_of NoSuchMember = None
date_of WrongOpening = None
date_of WrongMonth = None
date_of WrongSeries = None
date_of MonthAwaits = None
date_of EndowmentOwed = None
date_of NothingToClose = None
date_of BeforeTwentieth = None
date_of DaysNotClosed = None
date_of OtherEndowment = None
date_of EndowmentMissing = None
date_of (ReadingTooLarge date) = Some date
date_of (ReadingsTooLarge date) = Some date
date_of (MoveAboveLevel date) = Some date
date_of (MoveAboveSlope date) = Some date
date_of (NoBands date) = Some date
date_of (NoPrices date) = Some date
date_of (CarriedTooLarge date) = Some date
date_of TooManyClaims = None
date_of ClaimTooLarge = None
date_of NumeratorTooLarge = None
date_of DenominatorOutOfRange = None
date_of ProductTooLarge = None
date_of NoWeight = None
date_of TermOutOfRange = None
date_of BandOrder = None
date_of (BrokenFile _) = None
date_of StatementTooLong = None

-- the place in the day file, at a broken one
abbrev pub offset_of : Refusal → Option ℕ
offset_of Ended = None
offset_of LifeOver = None
offset_of WrongCount = None
offset_of NoSuchMember = None
offset_of WrongOpening = None
offset_of WrongMonth = None
offset_of WrongSeries = None
offset_of MonthAwaits = None
offset_of EndowmentOwed = None
offset_of NothingToClose = None
offset_of BeforeTwentieth = None
offset_of DaysNotClosed = None
offset_of OtherEndowment = None
offset_of EndowmentMissing = None
offset_of (ReadingTooLarge _) = None
offset_of (ReadingsTooLarge _) = None
offset_of (MoveAboveLevel _) = None
offset_of (MoveAboveSlope _) = None
offset_of (NoBands _) = None
offset_of (NoPrices _) = None
offset_of (CarriedTooLarge _) = None
offset_of TooManyClaims = None
offset_of ClaimTooLarge = None
offset_of NumeratorTooLarge = None
offset_of DenominatorOutOfRange = None
offset_of ProductTooLarge = None
offset_of NoWeight = None
offset_of TermOutOfRange = None
offset_of BandOrder = None
offset_of (BrokenFile offset) = Some offset
offset_of StatementTooLong = None

abbrev pub reason_of : Refusal → List ℕ
reason_of Ended = codes "the account has ended"
reason_of LifeOver = codes "all 120 months of the account are booked"
reason_of WrongCount = codes "the count of members or readings is wrong"
reason_of NoSuchMember = codes "the account has no such member"
reason_of WrongOpening = codes "an account opens on a 1st of 2000 to 2089"
reason_of WrongMonth = codes "the month of a rule is outside 2000 to 2099"
reason_of WrongSeries = codes "a series has another length than its month asks for"
reason_of MonthAwaits = codes "the month before still awaits its closing"
reason_of EndowmentOwed = codes "the endowment of the month before is still owed"
reason_of NothingToClose = codes "no month awaits its closing"
reason_of BeforeTwentieth = codes "an endowment is booked from the 20th on"
reason_of DaysNotClosed = codes "a booked day is in no closed month"
reason_of OtherEndowment = codes "the endowment is not the one that is owed"
reason_of EndowmentMissing = codes "an endowment is owed and none was handed in"
reason_of (ReadingTooLarge _) = codes "a reading is beyond 10,000,000 kWh"
reason_of (ReadingsTooLarge _) = codes "the readings add up to beyond 100,000,000 kWh"
reason_of (MoveAboveLevel _) = codes "the gap move is above the size of the gap level"
reason_of (MoveAboveSlope _) = codes "the gap move is above the slope"
reason_of (NoBands _) = codes "the band rule has no bands for the day"
reason_of (NoPrices _) = codes "the price rule has no prices for the day"
reason_of (CarriedTooLarge _) = codes "a member's carried balance is beyond 10,000,000 kWh"
reason_of TooManyClaims = codes "a sharing takes at most 40 claims"
reason_of ClaimTooLarge = codes "a claim is beyond 10,000,000,000"
reason_of NumeratorTooLarge = codes "the amount or numerator is above 20,000,000,000"
reason_of DenominatorOutOfRange = codes "the denominator is not 1 to 1,000,000,000,000"
reason_of ProductTooLarge = codes "the amount or numerator times the sum of the sizes is above 9,000,000,000,000,000,000"
reason_of NoWeight = codes "an amount cannot be shared over weights that are all nil"
reason_of TermOutOfRange = codes "a term is out of its range"
reason_of BandOrder = codes "a cumulable band is above the allowed band of its side"
reason_of (BrokenFile _) = codes "the day file is broken"
reason_of StatementTooLong = codes "the statement does not fit into the buffer"
