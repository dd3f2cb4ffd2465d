-- The bytes of a month and of a date.
use Rattle.std.proofs.Common.{◌≡◌, ℕ, ◌+◌, ◌*◌, ◌/◌, ◌%◌, ◌<◌, List, [], ◌∷◌, ◌++◌, length, get_or, take, codes, sym, refl, ap, ◌∙◌, arith}
use Rattle.kinds.specs.declared.dates.Date.{Date}
use Rattle.kinds.specs.declared.dates.Month.{Month}
use Rattle.kinds.proofs.Days.{same_date}
use Rattle.kinds.specs.Texts.{padded, monthly}
use Rattle.lines.specs.Dates.{Pair, Monthly, DateWord}
use Rattle.lines.proofs.Digits.{padded_two}

-- the bytes at two places
abbrev pub pair : List ℕ → ℕ → ℕ → List ℕ
pair w i j = get_or w i 0 ∷ get_or w j 0 ∷ []

pub seven : (w : List ℕ) → length w ≡ 7 → w ≡ pair w 0 1 ++ (pair w 2 3 ++ (get_or w 4 0 ∷ pair w 5 6))
seven (a ∷ b ∷ c ∷ d ∷ e ∷ f ∷ g ∷ []) l = refl
seven [] l = absurd (omega (arith, l))
seven (a ∷ []) l = absurd (omega (arith, l))
seven (a ∷ b ∷ []) l = absurd (omega (arith, l))
seven (a ∷ b ∷ c ∷ []) l = absurd (omega (arith, l))
seven (a ∷ b ∷ c ∷ d ∷ []) l = absurd (omega (arith, l))
seven (a ∷ b ∷ c ∷ d ∷ e ∷ []) l = absurd (omega (arith, l))
seven (a ∷ b ∷ c ∷ d ∷ e ∷ f ∷ []) l = absurd (omega (arith, l))
seven (a ∷ b ∷ c ∷ d ∷ e ∷ f ∷ g ∷ h ∷ w) l = absurd (omega (arith, l))

-- where a month is written
pub record MonthBytes (w : List ℕ) (m : Month) : Type 0 where
  pub long : length w ≡ 7
  pub dash : get_or w 4 0 ≡ 45
  pub century : Pair (pair w 0 1) (m.year / 100)
  pub year : Pair (pair w 2 3) (m.year % 100)
  pub month : Pair (pair w 5 6) m.month

abbrev seven_of : ℕ → ℕ → List ℕ
seven_of year month = (48 + year / 100 / 10) ∷ (48 + year / 100 % 10) ∷ (48 + year % 100 / 10) ∷ (48 + year % 100 % 10) ∷ 45 ∷ (48 + month / 10) ∷ (48 + month % 10) ∷ []

spelt : (year month : ℕ) → year < 10000 → month < 100 → monthly year month ≡ seven_of year month
spelt year month y m = rw (padded_two (year / 100) (omega (arith, y)), padded_two (year % 100) (omega arith), padded_two month m) refl

pub month_bytes : (w : List ℕ) (m : Month) → Monthly w m → MonthBytes w m
month_bytes w m h =
    let e = h.text ∙ spelt m.year m.month h.year h.month in
    record {
      long = ap length e;
      dash = ap (λ v. get_or v 4 0) e;
      century = (omega (arith, h.year), ap (λ v. pair v 0 1) e ∙ sym (padded_two (m.year / 100) (omega (arith, h.year))));
      year = (omega arith, ap (λ v. pair v 2 3) e ∙ sym (padded_two (m.year % 100) (omega arith)));
      month = (h.month, ap (λ v. pair v 5 6) e ∙ sym (padded_two m.month h.month));
    }

same_parts : (a b c p q r : List ℕ) (x y : ℕ) → a ≡ p → b ≡ q → x ≡ y → c ≡ r → a ++ (b ++ (x ∷ c)) ≡ p ++ (q ++ (y ∷ r))
same_parts a b c p q r x y e f g h = rw (e, f, g, h) refl

-- and back: the century, the year in it and the month
pub month_back : (w : List ℕ) (c y m : ℕ) → length w ≡ 7 → get_or w 4 0 ≡ 45 → Pair (pair w 0 1) c → Pair (pair w 2 3) y → Pair (pair w 5 6) m → Monthly w (record { year = c * 100 + y; month = m })
month_back w c y m l dash g h k =
    let high : (c * 100 + y) / 100 ≡ c = omega (arith, h.0) in
    let low : (c * 100 + y) % 100 ≡ y = omega (arith, h.0) in
    record {
      year = omega (arith, g.0, h.0);
      month = k.0;
      text = seven w l ∙ same_parts _ _ _ _ _ _ _ _ (g.1 ∙ ap padded (sym high)) (h.1 ∙ ap padded (sym low)) dash k.1;
    }

abbrev pub month_of : Date → Month
month_of d = record { year = d.year; month = d.month }

-- where a date is written
pub record DateBytes (w : List ℕ) (d : Date) : Type 0 where
  pub long : length w ≡ 10
  pub dash : get_or w 7 0 ≡ 45
  pub month : Monthly (take 7 w) (month_of d)
  pub day : Pair (pair w 8 9) d.day

pub date_bytes : (w : List ℕ) (d : Date) → DateWord w d → DateBytes w d
date_bytes w d h =
    let m = spelt d.year d.month h.year h.month in
    let ds = padded_two d.day h.day in
    let e : w ≡ seven_of d.year d.month ++ (45 ∷ (48 + d.day / 10) ∷ (48 + d.day % 10) ∷ []) = h.text ∙ ap (λ v. v ++ (codes "-" ++ padded d.day)) m ∙ ap (λ v. seven_of d.year d.month ++ (codes "-" ++ v)) ds in
    record {
      long = ap length e;
      dash = ap (λ v. get_or v 7 0) e;
      month = record { year = h.year; month = h.month; text = ap (take 7) e ∙ sym m };
      day = (h.day, ap (λ v. pair v 8 9) e ∙ sym ds);
    }

-- a word writes one month and one date
one_pair : (w : List ℕ) (n k : ℕ) → Pair w n → Pair w k → n ≡ k
one_pair w n k g h =
    let e = sym (padded_two n g.0) ∙ sym g.1 ∙ h.1 ∙ padded_two k h.0 in
    omega (arith, ap (λ v. get_or v 0 0) e, ap (λ v. get_or v 1 0) e)

pub record SameMonth (m n : Month) : Type 0 where
  pub year : m.year ≡ n.year
  pub month : m.month ≡ n.month

pub one_month : (w : List ℕ) (m n : Month) → Monthly w m → Monthly w n → SameMonth m n
one_month w m n g h =
    let a = month_bytes w m g in
    let b = month_bytes w n h in
    record {
      year = omega (arith, one_pair _ _ _ a.century b.century, one_pair _ _ _ a.year b.year);
      month = one_pair _ _ _ a.month b.month;
    }

pub one_date : (w : List ℕ) (d e : Date) → DateWord w d → DateWord w e → d ≡ e
one_date w d e g h =
    let a = date_bytes w d g in
    let b = date_bytes w e h in
    let m = one_month _ _ _ a.month b.month in
    same_date d e m.year m.month (one_pair _ _ _ a.day b.day)
