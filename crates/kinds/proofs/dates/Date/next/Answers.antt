-- The next day of the last day of a month: the 1st of the next one or of January, or none.
use Rattle.std.proofs.Common.{◌≡◌, ◌<◌, ◌≤◌, ap, ◌∙◌, inr, arith}
use Rattle.kinds.specs.declared.dates.Date.{Date}
use Rattle.kinds.specs.Calendar.{days_of, Last, last_date}
use Rattle.kinds.proofs.Days.{longest, within_year, december, same_date, next_month, next_year}
use Rattle.kinds.proofs.dates.Date.next.Goals as goal

at_end : (d : Date) → Last d → 12 ≤ d.month → 65535 ≤ d.year → d.year < 65536 → d ≡ last_date
at_end d h p q r =
    let m : d.month ≡ 12 = omega (arith, within_year d.year d.month) in
    same_date d last_date (omega arith) m (h.1 ∙ ap (days_of d.year) m ∙ december d.year)

pub overflow_add-result : goal.overflow_add-result
overflow_add-result c =
    omega (arith, longest c.args.self.year c.args.self.month, c.if-not-exists.ensures)

pub returns-then-self-lt12-clause-value : goal.returns-then-self-lt12-clause-value
returns-then-self-lt12-clause-value c =
    let h = c.if-not-is_last_of_month.ensures in (h.0, next_month _ h c.if-self-lt12.true)

pub returns-then-self-lt65535-clause-value : goal.returns-then-self-lt65535-clause-value
returns-then-self-lt65535-clause-value c =
    let h = c.if-not-is_last_of_month.ensures in (h.0, next_year _ h c.if-self-lt12.false)

pub returns-else-self-lt65535-clause-value : goal.returns-else-self-lt65535-clause-value
returns-else-self-lt65535-clause-value c =
    inr (at_end _ c.if-not-is_last_of_month.ensures c.if-self-lt12.false c.if-self-lt65535.false (omega arith))
