-- The words that begin the lines on prices, and what is said to the words after them.
use Rattle.std.specs.Prelude.{◌≡◌, ℕ, List, [], codes}
use Rattle.commands.specs.Replies.{Said, Replied, Chosen}
use Rattle.desk_prices.specs.Hand.{SeriesInHand}
use Rattle.desk_prices.specs.Series.{SeriesWords, SeriesSet}
use Rattle.desk_prices.specs.Setting.{NoneSet, FixedWords, FixedSet, Set2012, Set2008}
use Rattle.desk_prices.specs.declared.hand.PricesInHand.{PricesInHand}
use Rattle.desk_prices.specs.declared.keywords.Keyword.{Keyword}
use Rattle.desk_prices.specs.declared.keywords.Keyword.TheVariants.{Reference, Hub, Supplement, Prices}
use Rattle.desk_prices.specs.declared.keywords.PricesForm.{PricesForm}
use Rattle.desk_prices.specs.declared.keywords.PricesForm.TheVariants.{None, Fixed, Of2012, Of2008}
use Rattle.desk_prices.specs.declared.setting.NoneLine.{NoneLine}
use Rattle.desk_prices.specs.declared.setting.Line2012.{Line2012}
use Rattle.desk_prices.specs.declared.setting.Line2008.{Line2008}

abbrev pub spelled : Keyword → List ℕ
spelled Reference = codes "reference"
spelled Hub = codes "hub"
spelled Supplement = codes "supplement"
spelled Prices = codes "prices"

abbrev pub spelled_form : PricesForm → List ℕ
spelled_form None = codes "none"
spelled_form Fixed = codes "fixed"
spelled_form Of2012 = codes "2012"
spelled_form Of2008 = codes "2008"

abbrev pub prices_form : List ℕ
prices_form = codes "none, fixed, 2012 or 2008 after prices"

-- what is said to the words after `prices` and its form
abbrev pub OfForm : PricesForm → List (List ℕ) → PricesInHand → PricesInHand → Said → Type 0
OfForm None ws s t y = Replied {C = NoneLine} (λ vs _. vs ≡ []) (λ _. NoneSet) (codes "prices none") ws s t y
OfForm Fixed ws s t y = Replied FixedWords FixedSet (codes "prices fixed P1 BUY SELL P3") ws s t y
OfForm Of2012 ws s t y = Replied {C = Line2012} (λ vs _. vs ≡ []) (λ _. Set2012) (codes "prices 2012") ws s t y
OfForm Of2008 ws s t y = Replied {C = Line2008} (λ vs _. vs ≡ []) (λ _. Set2008) (codes "prices 2008") ws s t y

-- what is said to the words of a series, and the series then
abbrev pub SeriesSaid : List ℕ → List (List ℕ) → SeriesInHand → SeriesInHand → Said → Type 0
SeriesSaid = Replied SeriesWords SeriesSet

-- and to the words after a keyword: that of a series changes its own series and nothing else
abbrev pub Of : Keyword → List (List ℕ) → PricesInHand → PricesInHand → Said → Type 0
Of Reference ws s t y =
    SeriesSaid (codes "reference YYYY-MM R..") ws s.reference t.reference y × (t ≡ record { rule = s.rule; reference = t.reference; hub = s.hub; supplement = s.supplement })
Of Hub ws s t y =
    SeriesSaid (codes "hub YYYY-MM H..") ws s.hub t.hub y × (t ≡ record { rule = s.rule; reference = s.reference; hub = t.hub; supplement = s.supplement })
Of Supplement ws s t y =
    SeriesSaid (codes "supplement YYYY-MM S..") ws s.supplement t.supplement y × (t ≡ record { rule = s.rule; reference = s.reference; hub = s.hub; supplement = t.supplement })
Of Prices ws s t y = Chosen spelled_form OfForm prices_form ws s t y
