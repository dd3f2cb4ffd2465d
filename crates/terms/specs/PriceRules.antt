-- A price rule over a month: the prices of each date from those of its series.
use Rattle.std.specs.Prelude.{◌≡◌, ℕ, ◌+◌, ◌<◌, List, length, None, Option, MatchOption, slice_index_or}
use Rattle.kinds.specs.declared.dates.Date.{Date}
use Rattle.kinds.specs.declared.dates.Month.{Month}
use Rattle.rules.specs.declared.day_price.DayPrice.{DayPrice}
use Rattle.rules.specs.declared.monthly.Monthly.{Monthly}
use Rattle.rules.specs.declared.prices.Prices.{Prices}
use Rattle.rules.specs.declared.prices.parts.PriceFigures.{PriceFigures}
use Rattle.rules.specs.Formulas.{from2012, from2008}
use Rattle.rules.specs.Monthly.{on_date}
use Rattle.rules.specs.Prices.{price_figures_of}

-- what a month holds for a date
abbrev pub on_day : {T : Type 0} → Monthly T → Date → Option T
on_day m d = on_date m.month m.days.items d

-- the day at a place of a month, the 1st at 0
abbrev pub day_at : Month → ℕ → Date
day_at m k = record { year = m.year; month = m.month; day = k + 1 }

-- prices are there, and have these figures
abbrev pub Figured : PriceFigures → Option Prices → Type 0
Figured f o = MatchOption o ⊥ (λ p. price_figures_of p ≡ f)

-- by the rule of 2012, from the reference's price and the supplement's; none where one is missing
abbrev pub By2012 : Option DayPrice → Option DayPrice → Option Prices → Type 0
By2012 r s o = MatchOption r (o ≡ None) (λ x. MatchOption s (o ≡ None) (λ y. Figured (from2012 x.cents y.cents) o))

-- by the rule of 2008, from the hub's price too
abbrev pub By2008 : Option DayPrice → Option DayPrice → Option DayPrice → Option Prices → Type 0
By2008 r h s o =
    MatchOption r (o ≡ None) (λ x. MatchOption h (o ≡ None) (λ y. MatchOption s (o ≡ None) (λ z. Figured (from2008 x.cents y.cents z.cents) o)))

-- the days hold what P says of each of the first n places, and no more
pub record Filled {X : Type 0} (P : ℕ → Option X → Type 0) (n : ℕ) (days : List (Option X)) : Type 0 where
  pub long : length days ≡ n
  pub each : (k : ℕ) → k < n → P k (slice_index_or days k None)

-- a rule over a month, which has for each date what P says
pub record Over (month : Month) (P : Date → Option Prices → Type 0) (rule : Monthly Prices) : Type 0 where
  pub same : rule.month ≡ month
  pub each : (d : Date) → P d (on_day rule d)
