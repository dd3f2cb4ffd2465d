-- What the desk has in hand for prices.
use Rattle.std.specs.Prelude.{◌≡◌, None, codes, Option}
use Rattle.kinds.specs.declared.dates.Date.{Date}
use Rattle.rules.specs.declared.day_price.DayPrice.{DayPrice}
use Rattle.rules.specs.declared.monthly.Monthly.{Monthly}
use Rattle.rules.specs.declared.prices.Prices.{Prices}
use Rattle.rules.specs.declared.rules.Either.{Either}
use Rattle.rules.specs.declared.rules.Either.TheVariants.{This, That}
use Rattle.rules.specs.declared.rules.Fixed.{Fixed}
use Rattle.terms.specs.PriceRules.{on_day}
use Rattle.commands.specs.Replies.{Said, text}
use Rattle.desk_prices.specs.declared.hand.PricesInHand.{PricesInHand}

-- a rule: fixed, or a month's
abbrev pub PriceRule : Type 0
PriceRule = Either (Fixed Prices) (Monthly Prices)

-- the prices that it has on a date
abbrev pub on : PriceRule → Date → Option Prices
on (This f) d = f.value
on (That m) d = on_day m d

-- no prices on any date
abbrev pub Priceless : PriceRule → Type 0
Priceless r = (d : Date) → on r d ≡ None

-- a series, or none yet
abbrev pub SeriesInHand : Type 0
SeriesInHand = Option (Monthly DayPrice)

-- no prices, and no series
pub record Start (h : PricesInHand) : Type 0 where
  pub rule : Priceless h.rule
  pub reference : h.reference ≡ None
  pub hub : h.hub ≡ None
  pub supplement : h.supplement ≡ None

-- another rule beside the same series
abbrev pub with_rule : PriceRule → PricesInHand → PricesInHand
with_rule r h = record { rule = r; reference = h.reference; hub = h.hub; supplement = h.supplement }

-- what a line that succeeds says
abbrev pub ok : Said
ok = text (codes "ok")
