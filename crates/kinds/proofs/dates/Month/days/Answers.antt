-- How long February is.
use Rattle.std.proofs.Common.{◌≡◌, ℕ, Bool, true, false, cond, sym, ap, ◌∙◌}
use Rattle.kinds.specs.Calendar.{is_leap, days_of}
use Rattle.kinds.proofs.dates.Month.days.Goals as goal

february : (b : Bool) (y m : ℕ) → b ≡ is_leap y → m ≡ 2 → cond b 29 28 ≡ days_of y m
unfolding days_of
february b y m e f = ap (λ t. cond t 29 28) e ∙ sym (ap (days_of y) f)

pub returns-then-is_leap : goal.returns-then-is_leap
returns-then-is_leap c = february true _ _ c.if-is_leap.ensures.value c.in-2.is

pub returns-else-is_leap : goal.returns-else-is_leap
returns-else-is_leap c = february false _ _ c.if-is_leap.ensures.value c.in-2.is
