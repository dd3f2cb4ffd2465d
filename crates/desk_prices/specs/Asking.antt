-- What the line that asks for prices means, and what is said to it.
use Rattle.std.specs.Prelude.{◌≡◌, ℕ, List, [], ◌++◌, Some, None, codes, decimal, Option}
use Rattle.kinds.specs.declared.dates.Date.{Date}
use Rattle.rules.specs.Prices.{price_figures_of}
use Rattle.rules.specs.declared.prices.Prices.{Prices}
use Rattle.rules.specs.declared.prices.parts.PriceFigures.{PriceFigures}
use Rattle.lines.specs.Fields.{First}
use Rattle.lines.specs.Dates.{CalendarWord}
use Rattle.commands.specs.Replies.{Said, text}
use Rattle.desk_prices.specs.Hand.{on, with_rule}
use Rattle.desk_prices.specs.declared.asking.AskLine.{AskLine}
use Rattle.desk_prices.specs.declared.hand.PricesInHand.{PricesInHand}

abbrev pub ask_form : List ℕ
ask_form = codes "ask prices YYYY-MM-DD"

-- a date of the calendar
abbrev pub AskWords : List (List ℕ) → AskLine → Type 0
AskWords ws x = First CalendarWord x.date (λ vs. vs ≡ []) ws

-- the four prices, each after a blank
abbrev pub figured : PriceFigures → List ℕ
figured f = codes "prices " ++ (decimal f.p1 ++ (codes " " ++ (decimal f.buy ++ (codes " " ++ (decimal f.sell ++ (codes " " ++ decimal f.p3))))))

abbrev pub shown : Option Prices → List ℕ
shown None = codes "no prices"
shown (Some p) = figured (price_figures_of p)

-- the prices of the date are shown; the rule has on each date what it had, and the series stay
pub record Asked (x : AskLine) (before after : PricesInHand) (y : Said) : Type 0 where
  pub kept : (d : Date) → on after.rule d ≡ on before.rule d
  pub stays : after ≡ with_rule after.rule before
  pub said : y ≡ text (shown (on before.rule x.date))
