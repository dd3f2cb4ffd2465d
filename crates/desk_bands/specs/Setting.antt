-- What the lines that set the band rule mean, and the rule that they set.
use Rattle.std.specs.Prelude.{◌≡◌, ℕ, List, [], None, vec_items, codes, Option, MatchOption}
use Rattle.kinds.specs.declared.dates.Date.{Date}
use Rattle.kinds.specs.declared.refusals.Refusal.{Refusal}
use Rattle.rules.specs.Bands.{figures_of, zeros, Misfit}
use Rattle.rules.specs.declared.bands.Bands.{Bands}
use Rattle.rules.specs.declared.bands.parts.BandFigures.{BandFigures}
use Rattle.rules.specs.declared.monthly.Monthly.{Monthly}
use Rattle.rules.specs.declared.rules.Either.{Either}
use Rattle.rules.specs.declared.rules.Either.TheVariants.{This, That}
use Rattle.rules.specs.declared.rules.Fixed.{Fixed}
use Rattle.terms.specs.PriceRules.{on_day}
use Rattle.terms.specs.Schedule.{Unfit, Scheduled}
use Rattle.std.specs.Int.{w16}
use Rattle.lines.specs.Fields.{NaturalBelow, NumberWithin, Missing, First, Each}
use Rattle.lines.specs.Dates.{MonthWord}
use Rattle.commands.specs.Refusals.{refused}
use Rattle.commands.specs.Replies.{Said, text}
use Rattle.desk_bands.specs.Bases.{PerimeterWord}
use Rattle.terms.specs.declared.tolerance.Perimeter.{Perimeter}
use Rattle.desk_bands.specs.declared.bases.PerimeterName.{PerimeterName}
use Rattle.desk_bands.specs.declared.setting.FixedLine.{FixedLine}
use Rattle.desk_bands.specs.declared.setting.ScheduleLine.{ScheduleLine}

-- the rule in hand: fixed, or a month's
abbrev pub InHand : Type 0
InHand = Either (Fixed Bands) (Monthly Bands)

-- the bands that it has on a date
abbrev pub on : InHand → Date → Option Bands
on (This f) d = f.value
on (That m) d = on_day m d

-- it has these figures on every date
abbrev pub Always : BandFigures → InHand → Type 0
Always f r = (d : Date) → MatchOption (on r d) ⊥ (λ b. figures_of b ≡ f)

abbrev pub ok : Said
ok = text (codes "ok")

-- no bands on any date
abbrev pub NoneSet : InHand → Said → Type 0
NoneSet r y = ((d : Date) → on r d ≡ None) × (y ≡ ok)

-- five zeros on every date
abbrev pub ZeroSet : InHand → Said → Type 0
ZeroSet r y = Always zeros r × (y ≡ ok)

-- the five figures, in the order of a set's names
abbrev pub FixedWords : List (List ℕ) → FixedLine → Type 0
FixedWords ws x = First (NaturalBelow 32) x.figures.lower_allowed (First (NaturalBelow 32) x.figures.lower_cumulable (First (NaturalBelow 32) x.figures.upper_cumulable (First (NaturalBelow 32) x.figures.upper_allowed (First (NaturalBelow 32) x.figures.carry_limit (λ vs. vs ≡ []))))) ws

-- these figures on every date; refused, the rule stays
pub data FixedSet (x : FixedLine) (before : InHand) : InHand → Said → Type 0 where
  set : (r : InHand) → Always x.figures r → FixedSet x before r ok
  denied : (e : Refusal) → Misfit x.figures e → FixedSet x before before (text (refused e))

abbrev by_name : Perimeter → PerimeterName
by_name p = record { 0 = p }

-- the month, the perimeter and the terms in order, and then a forecast or a dash for each day
abbrev pub ScheduleWords : List (List ℕ) → ScheduleLine → Type 0
ScheduleWords ws x =
    First MonthWord x.terms.month (First (λ w p. PerimeterWord w p.0) (by_name x.terms.perimeter) (First (NaturalBelow 32) x.terms.base (First (NaturalBelow 8) x.terms.optional
    (First (NumberWithin w16) x.terms.threshold (First (NumberWithin w16) x.terms.limit (First (NaturalBelow 8) x.terms.talon (λ vs. Each (Missing (NumberWithin w16)) vs (vec_items x.forecasts)))))))) ws

-- the schedule of the terms; refused, the rule stays
pub data ScheduleSet (x : ScheduleLine) (before : InHand) : InHand → Said → Type 0 where
  set : (m : Monthly Bands) → Scheduled x.terms (vec_items x.forecasts) m.month (vec_items m.days) → ScheduleSet x before (That m) ok
  denied : (e : Refusal) → Unfit x.terms (vec_items x.forecasts) e → ScheduleSet x before before (text (refused e))
