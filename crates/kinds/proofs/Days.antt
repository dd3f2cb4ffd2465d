-- The laws of the calendar: how long a month is, the order of dates, and which date comes next.
use Rattle.std.proofs.Common.{◌≡◌, ℕ, ◌+◌, ◌<◌, ◌≤◌, Bool, true, false, cond, ◌⊎◌, refl, inl, inr, ⊎_elim, arith}
use Rattle.kinds.specs.declared.dates.Date.{Date}
use Rattle.kinds.specs.Calendar.{is_leap, days_of, Exists, Last, Before, Tomorrow}

february : (b : Bool) → (28 ≤ cond b 29 28) × (cond b 29 28 ≤ 29)
february true = omega arith
february false = omega arith

pub shortest : (y m : ℕ) → 1 ≤ m → m ≤ 12 → 28 ≤ days_of y m
unfolding days_of
shortest y m p q = grind (arith, february (is_leap y))

pub longest : (y m : ℕ) → days_of y m ≤ 31
unfolding days_of
longest y m = grind (arith, february (is_leap y))

-- only the months from 1 to 12 have days
pub within_year : (y m : ℕ) → 1 ≤ days_of y m → (1 ≤ m) × (m ≤ 12)
unfolding days_of
within_year y m h = grind arith

pub december : (y : ℕ) → days_of y 12 ≡ 31
unfolding days_of
december y = refl

abbrev pub date : ℕ → ℕ → ℕ → Date
date y m k = record { year = y; month = m; day = k }

pub same_date : (d e : Date) → d.year ≡ e.year → d.month ≡ e.month → d.day ≡ e.day → d ≡ e
same_date d e p q r =
    let h : date d.year d.month d.day ≡ date e.year e.month e.day = cc in h

pub before_irreflexive : (d : Date) → Before d d → ⊥
before_irreflexive d h = omega arith

pub before_transitive : (d e f : Date) → Before d e → Before e f → Before d f
before_transitive d e f p q = grind arith

pub before_total : (d e : Date) → Before d e ⊎ ((d ≡ e) ⊎ Before e d)
before_total d e = grind (arith, same_date d e)

-- a later date is the next one where no date of the calendar is between
between : (d e : Date) → Exists e → Before d e → ((x : Date) → Exists x → Before d x → Before x e → ⊥) → Tomorrow d e
between d e h p none = record {
  exists = h;
  after = p;
  first = λ x g q. ⊎_elim inr (⊎_elim inl (λ b. absurd (none x g q b))) (before_total e x);
}

-- the next day, by `OneNext` the only one, of a day that is not the last of its month
pub next_in_month : (d : Date) → Exists d → (Last d → ⊥) → Tomorrow d (date d.year d.month (d.day + 1))
next_in_month d h n =
    let p : d.day < days_of d.year d.month = grind arith in
    between _ _ (record { from = omega arith; to = omega arith }) (grind arith) (λ x g q b. omega arith)

-- of the last day of a month, before December and in December
pub next_month : (d : Date) → Last d → d.month < 12 → Tomorrow d (date d.year (d.month + 1) 1)
next_month d h p =
    between _ _ (record { from = omega arith; to = omega (arith, shortest d.year (d.month + 1)) }) (grind arith)
    (λ x g q b. grind arith)

pub next_year : (d : Date) → Last d → 12 ≤ d.month → Tomorrow d (date (d.year + 1) 1 1)
next_year d h p =
    between _ _ (record { from = omega arith; to = omega (arith, shortest (d.year + 1) 1) }) (grind arith)
    (λ x g q b. grind (arith, within_year x.year x.month))
