-- The words that begin the lines on bands, and what is said to the words after them.
use Rattle.std.specs.Prelude.{◌≡◌, ℕ, List, [], codes}
use Rattle.commands.specs.Replies.{Said, Replied, Chosen}
use Rattle.desk_bands.specs.Bases.{BaseWords, BaseSaid, ToleranceWords, ToleranceSaid}
use Rattle.desk_bands.specs.Setting.{InHand, NoneSet, ZeroSet, FixedWords, FixedSet, ScheduleWords, ScheduleSet}
use Rattle.desk_bands.specs.declared.keywords.Keyword.{Keyword}
use Rattle.desk_bands.specs.declared.keywords.Keyword.TheVariants.{Base, Tolerance, Bands}
use Rattle.desk_bands.specs.declared.keywords.BandsForm.{BandsForm}
use Rattle.desk_bands.specs.declared.keywords.BandsForm.TheVariants.{None, Zero, Fixed, Schedule}
use Rattle.desk_bands.specs.declared.setting.NoneLine.{NoneLine}
use Rattle.desk_bands.specs.declared.setting.ZeroLine.{ZeroLine}

abbrev pub spelled : Keyword → List ℕ
spelled Base = codes "base"
spelled Tolerance = codes "tolerance"
spelled Bands = codes "bands"

abbrev pub spelled_form : BandsForm → List ℕ
spelled_form None = codes "none"
spelled_form Zero = codes "zero"
spelled_form Fixed = codes "fixed"
spelled_form Schedule = codes "schedule"

abbrev pub bands_form : List ℕ
bands_form = codes "none, zero, fixed or schedule after bands"

-- what is said to the words after `bands` and its form
abbrev pub OfForm : BandsForm → List (List ℕ) → InHand → InHand → Said → Type 0
OfForm None ws s t y = Replied {C = NoneLine} (λ vs _. vs ≡ []) (λ _ _ u z. NoneSet u z) (codes "bands none") ws s t y
OfForm Zero ws s t y = Replied {C = ZeroLine} (λ vs _. vs ≡ []) (λ _ _ u z. ZeroSet u z) (codes "bands zero") ws s t y
OfForm Fixed ws s t y = Replied FixedWords FixedSet (codes "bands fixed LA LC UC UA LIMIT") ws s t y
OfForm Schedule ws s t y = Replied ScheduleWords ScheduleSet (codes "bands schedule YYYY-MM PERIMETER BASE TOE THRESHOLD LIMIT TALON FORECAST..") ws s t y

-- and to the words after a keyword: a base and a tolerance leave the rule as it is
abbrev pub Of : Keyword → List (List ℕ) → InHand → InHand → Said → Type 0
Of Base ws s t y = Replied BaseWords (λ x u v z. (v ≡ u) × BaseSaid x z) (codes "base YYYY-MM CAPACITY MONTHLY ALLOCATION..") ws s t y
Of Tolerance ws s t y = Replied ToleranceWords (λ x u v z. (v ≡ u) × ToleranceSaid x z) (codes "tolerance north-b|north-h|south BASE") ws s t y
Of Bands ws s t y = Chosen spelled_form OfForm bands_form ws s t y
