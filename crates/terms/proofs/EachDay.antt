-- What a month has day by day from a series of it.
use Rattle.std.proofs.Common.{◌≡◌, ℕ, ◌-◌, Bool, true, ◌&&◌, ◌==◌, nat_lt, List, length, get_or, None, Option, sym, ◌∙◌, inl, inr, arith}
use Rattle.std.proofs.lemmas.List.{get_or_past}
use Rattle.std.proofs.lemmas.Bool.{cases_lt, cases_Bool, and_parts, eqb-true, ltb-true, cond-true, cond-false}
use Rattle.std.proofs.lemmas.Bool.Decides.{nat_tests}
use Rattle.kinds.proofs.Days.{same_date}
use Rattle.kinds.specs.declared.dates.Date.{Date}
use Rattle.kinds.specs.declared.dates.Month.{Month}
use Rattle.rules.specs.Monthly.{on_date}
use Rattle.rules.specs.declared.day_price.DayPrice.{DayPrice}
use Rattle.rules.specs.declared.monthly.Monthly.{Monthly}
use Rattle.rules.specs.declared.prices.Prices.{Prices}
use Rattle.terms.specs.PriceRules.{Filled, Over, on_day, day_at}

-- the test of a month: within it, a date is the day at its place
abbrev within : Month → Date → Bool
within m d = d.year == m.year && (d.month == m.month && nat_lt 0 d.day)

day_at_is : (m : Month) (d : Date) → within m d ≡ true → day_at m (d.day - 1) ≡ d
day_at_is m d h =
    let a = and_parts _ _ h in
    let b = and_parts _ _ a.1 in
    same_date _ _ (sym (eqb-true _ _ a.0)) (sym (eqb-true _ _ b.0)) (omega (arith, ltb-true _ _ b.1))

-- a day's value is that at its place
pub at_place : {X : Type 0} (m : Month) (xs : List (Option X)) (k : ℕ) → on_date m xs (day_at m k) ≡ get_or xs k None
at_place m xs k = grind (arith, nat_tests)

-- what holds at each place, and where the first series has none, holds on every date
pub on_each : {X Y : Type 0} (m : Month) (rs : List (Option Y)) (xs : List (Option X)) (P : Date → Option X → Type 0) → ((d : Date) → on_date m rs d ≡ None → P d None)
    → Filled (λ k. P (day_at m k)) (length rs) xs → (d : Date) → P d (on_date m xs d)
on_each m rs xs P none h d = elim (cases_Bool (within m d)) [
  | inr f ↦ rw (cond-false (within m d) (get_or xs (d.day - 1) None) None f) (none d (cond-false (within m d) (get_or rs (d.day - 1) None) None f))
  | inl t ↦ rw (cond-true (within m d) (get_or xs (d.day - 1) None) None t) (elim (cases_lt (d.day - 1) (length rs)) [
    | inl l ↦ let p = h.each (d.day - 1) l in rw (day_at_is m d t) at p
    | inr l ↦ rw (get_or_past xs (d.day - 1) None (omega (arith, h.long))) (none d (cond-true (within m d) _ _ t ∙ get_or_past rs (d.day - 1) None l))
  ])
]

-- so a rule that is made place by place over the days of a series is a rule over its month
pub over_month : (r : Monthly DayPrice) (P : Date → Option Prices → Type 0) (Q : ℕ → Option Prices → Type 0) (n : ℕ) (rule : Monthly Prices) → n ≡ length r.days.items → ((d : Date) → on_day r d ≡ None → P d None)
    → ((k : ℕ) (o : Option Prices) → Q k o → P (day_at r.month k) o) → (rule.month ≡ r.month) × Filled Q n rule.days.items → Over r.month P rule
over_month r P Q n rule e none each h = record {
  same = h.0;
  each = rw h.0 (on_each r.month r.days.items rule.days.items P none (record { long = omega (arith, h.1.long); each = λ k l. each k _ (h.1.each k (omega arith)) }));
}
