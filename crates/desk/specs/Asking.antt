-- The words that begin a line that asks a rule in hand, and what is said to the words after them.
use Rattle.std.specs.Prelude.{◌≡◌, ℕ, List, codes}
use Rattle.commands.specs.Replies.{Said, Replied, Chosen}
use Rattle.desk_bands.specs.Asking.{AskWords, Asked, ask_form}
use Rattle.desk_prices.specs.Asking.{AskWords as AskPrices, Asked as PricesAsked, ask_form as ask_prices_form}
use Rattle.desk.specs.declared.hand.Hand.{Hand}
use Rattle.desk.specs.declared.asking.Keyword.{Keyword}
use Rattle.desk.specs.declared.asking.Keyword.TheVariants.{Ask}
use Rattle.desk.specs.declared.asking.RuleName.{RuleName}
use Rattle.desk.specs.declared.asking.RuleName.TheVariants.{Bands, Prices}

abbrev pub spelled : Keyword → List ℕ
spelled Ask = codes "ask"

abbrev pub spelled_rule : RuleName → List ℕ
spelled_rule Bands = codes "bands"
spelled_rule Prices = codes "prices"

-- what is said to the words after `ask` and the rule that is asked; what is not asked stays as it was
abbrev pub OfRule : RuleName → List (List ℕ) → Hand → Hand → Said → Type 0
OfRule Bands ws s t y = Replied AskWords Asked ask_form ws s.bands t.bands y × (t.prices ≡ s.prices)
OfRule Prices ws s t y = Replied AskPrices PricesAsked ask_prices_form ws s.prices t.prices y × (t.bands ≡ s.bands)

-- and to the words after `ask`; where they name no rule, the forms of asking
abbrev pub Of : Keyword → List (List ℕ) → Hand → Hand → Said → Type 0
Of Ask ws s t y = Chosen spelled_rule OfRule (codes "bands or prices after ask") ws s t y
