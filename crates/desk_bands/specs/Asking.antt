-- What the line that asks for bands means, and what is said to it.
use Rattle.std.specs.Prelude.{◌≡◌, ℕ, List, [], ◌++◌, Some, None, codes, decimal, Option}
use Rattle.kinds.specs.declared.dates.Date.{Date}
use Rattle.rules.specs.Bands.{figures_of}
use Rattle.rules.specs.declared.bands.Bands.{Bands}
use Rattle.rules.specs.declared.bands.parts.BandFigures.{BandFigures}
use Rattle.lines.specs.Fields.{First}
use Rattle.lines.specs.Dates.{CalendarWord}
use Rattle.commands.specs.Replies.{Said, text}
use Rattle.desk_bands.specs.Setting.{InHand, on}
use Rattle.desk_bands.specs.declared.asking.AskLine.{AskLine}

abbrev pub ask_form : List ℕ
ask_form = codes "ask bands YYYY-MM-DD"

-- a date of the calendar
abbrev pub AskWords : List (List ℕ) → AskLine → Type 0
AskWords ws x = First CalendarWord x.date (λ vs. vs ≡ []) ws

-- the five figures, each after a blank
abbrev pub figured : BandFigures → List ℕ
figured f =
    codes "bands " ++ (decimal f.lower_allowed ++ (codes " " ++ (decimal f.lower_cumulable ++ (codes " " ++ (decimal f.upper_cumulable ++ (codes " " ++ (decimal f.upper_allowed ++ (codes " " ++ decimal f.carry_limit))))))))

abbrev pub shown : Option Bands → List ℕ
shown None = codes "no bands"
shown (Some b) = figured (figures_of b)

-- the bands of the date are shown; the rule has on each date what it had
abbrev pub Asked : AskLine → InHand → InHand → Said → Type 0
Asked x before after y = ((d : Date) → on after d ≡ on before d) × (y ≡ text (shown (on before x.date)))
