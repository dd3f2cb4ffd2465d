-- What the lines that set the price rule mean, and the rule that they set.
use Rattle.std.specs.Prelude.{◌≡◌, ℕ, List, [], Some, codes, MatchOption}
use Rattle.kinds.specs.declared.dates.Date.{Date}
use Rattle.kinds.specs.declared.refusals.Refusal.{Refusal}
use Rattle.rules.specs.Prices.{price_figures_of, Overpriced}
use Rattle.rules.specs.declared.day_price.DayPrice.{DayPrice}
use Rattle.rules.specs.declared.monthly.Monthly.{Monthly}
use Rattle.rules.specs.declared.prices.Prices.{Prices}
use Rattle.rules.specs.declared.prices.parts.PriceFigures.{PriceFigures}
use Rattle.rules.specs.declared.rules.Either.TheVariants.{That}
use Rattle.terms.specs.PriceRules.{on_day, By2012, By2008, Over}
use Rattle.lines.specs.Fields.{NaturalBelow, First}
use Rattle.commands.specs.Refusals.{refused}
use Rattle.commands.specs.Replies.{Said, text, unread}
use Rattle.desk_prices.specs.Hand.{PriceRule, on, Priceless, with_rule, ok}
use Rattle.desk_prices.specs.declared.hand.PricesInHand.{PricesInHand}
use Rattle.desk_prices.specs.declared.setting.FixedLine.{FixedLine}

-- it has these prices on every date
abbrev pub Always : PriceFigures → PriceRule → Type 0
Always f r = (d : Date) → MatchOption (on r d) ⊥ (λ p. price_figures_of p ≡ f)

-- no prices on any date
pub data NoneSet (before : PricesInHand) : PricesInHand → Said → Type 0 where
  set : (r : PriceRule) → Priceless r → NoneSet before (with_rule r before) ok

-- the four prices, in the order of a set's names
abbrev pub FixedWords : List (List ℕ) → FixedLine → Type 0
FixedWords ws x = First (NaturalBelow 32) x.figures.p1 (First (NaturalBelow 32) x.figures.buy (First (NaturalBelow 32) x.figures.sell (First (NaturalBelow 32) x.figures.p3 (λ vs. vs ≡ [])))) ws

-- these prices on every date; refused, the rule stays
pub data FixedSet (x : FixedLine) (before : PricesInHand) : PricesInHand → Said → Type 0 where
  set : (r : PriceRule) → Always x.figures r → FixedSet x before (with_rule r before) ok
  denied : (e : Refusal) → Overpriced x.figures e → FixedSet x before before (text (refused e))

-- the series that the rule of 2012 uses are in hand
pub record Given2012 (h : PricesInHand) (r s : Monthly DayPrice) : Type 0 where
  pub reference : h.reference ≡ Some r
  pub supplement : h.supplement ≡ Some s

abbrev pub form2012 : List ℕ
form2012 = codes "a reference and a supplement before prices 2012"

-- the rule of 2012 of these series; where one is not in hand the rule stays, and what is expected is told
pub data Set2012 (before : PricesInHand) : PricesInHand → Said → Type 0 where
  set : (r s : Monthly DayPrice) → Given2012 before r s → (m : Monthly Prices) → Over r.month (λ d. By2012 (on_day r d) (on_day s d)) m → Set2012 before (with_rule (That m) before) ok
  lacking : ((r s : Monthly DayPrice) → Given2012 before r s → ⊥) → Set2012 before before (unread form2012)

-- the series that the rule of 2008 uses are in hand
pub record Given2008 (h : PricesInHand) (r k s : Monthly DayPrice) : Type 0 where
  pub reference : h.reference ≡ Some r
  pub hub : h.hub ≡ Some k
  pub supplement : h.supplement ≡ Some s

abbrev pub form2008 : List ℕ
form2008 = codes "a reference, a hub and a supplement before prices 2008"

-- the rule of 2008 of these series; where one is not in hand the rule stays, and what is expected is told
pub data Set2008 (before : PricesInHand) : PricesInHand → Said → Type 0 where
  set : (r k s : Monthly DayPrice) → Given2008 before r k s → (m : Monthly Prices) → Over r.month (λ d. By2008 (on_day r d) (on_day k d) (on_day s d)) m → Set2008 before (with_rule (That m) before) ok
  lacking : ((r k s : Monthly DayPrice) → Given2008 before r k s → ⊥) → Set2008 before before (unread form2008)
