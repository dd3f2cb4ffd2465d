-- What the line that gives a series means, and the series in hand then.
use Rattle.std.specs.Prelude.{ℕ, List, Some}
use Rattle.kinds.specs.declared.refusals.Refusal.{Refusal}
use Rattle.rules.specs.declared.day_price.DayPrice.{DayPrice}
use Rattle.rules.specs.declared.monthly.Monthly.{Monthly}
use Rattle.terms.specs.Series.{Series, NoSeries}
use Rattle.lines.specs.Fields.{NaturalBelow, Missing, First, Each}
use Rattle.lines.specs.Dates.{MonthWord}
use Rattle.commands.specs.Refusals.{refused}
use Rattle.commands.specs.Replies.{Said, text}
use Rattle.desk_prices.specs.Hand.{SeriesInHand, ok}
use Rattle.desk_prices.specs.declared.series.SeriesLine.{SeriesLine}

-- the month, and then a value or a dash for each day
abbrev pub SeriesWords : List (List ℕ) → SeriesLine → Type 0
SeriesWords ws x = First MonthWord x.month (λ vs. Each (Missing (NaturalBelow 32)) vs x.values.items) ws

-- the series of these values; refused, that in hand stays
pub data SeriesSet (x : SeriesLine) (before : SeriesInHand) : SeriesInHand → Said → Type 0 where
  set : (s : Monthly DayPrice) → Series x.month x.values.items s → SeriesSet x before (Some s) ok
  denied : (e : Refusal) → NoSeries x.month x.values.items e → SeriesSet x before before (text (refused e))
