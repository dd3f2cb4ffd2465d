-- A set of prices by its four figures, and why four figures are no set.
use Rattle.std.specs.Prelude.{◌≤◌}
use Rattle.kinds.specs.declared.refusals.Refusal.{Refusal}
use Rattle.kinds.specs.declared.refusals.Refusal.TheVariants.{TermOutOfRange}
use Rattle.rules.specs.declared.prices.Prices.{Prices}
use Rattle.rules.specs.declared.prices.parts.PriceFigures.{PriceFigures}

abbrev pub price_figures_of : Prices → PriceFigures
price_figures_of p = record { p1 = p.p1.mills; buy = p.buy.mills; sell = p.sell.mills; p3 = p.p3.mills }

-- each price is within its range
pub record Priced (f : PriceFigures) : Type 0 where
  pub first : f.p1 ≤ 400000
  pub bought : f.buy ≤ 400000
  pub sold : f.sell ≤ 400000
  pub third : f.p3 ≤ 400000

pub data Overpriced (f : PriceFigures) : Refusal → Type 0 where
  overpriced : (Priced f → ⊥) → Overpriced f TermOutOfRange
