-- Numbers with zeros before them.
use Rattle.std.proofs.Common.{◌≡◌, ℕ, zero, suc, ◌+◌, ◌-◌, ◌/◌, ◌%◌, ◌^◌, ◌<◌, false, List, [], ◌∷◌, ◌++◌, length, replicate, decimal, sym, refl, ap, ◌∙◌, inl, inr, append_assoc, append-nil, arith}
use native.Mathlib.Numerals.{unary_clauses}
use Rattle.std.specs.Fmt.{padded_integral, styled_decimal, format_spec, char_count}
use Rattle.std.proofs.lemmas.Bool.{cases_lt}
use Rattle.std.proofs.lemmas.List.{length-append}
use Rattle.std.proofs.lemmas.Fmt.{decimal_digit, decimal_step, decimal_nonempty}
use Rattle.kinds.specs.Texts.{padded}

-- the digits of a number, to a width
abbrev zeroed : ℕ → List ℕ → List ℕ
zeroed w ds = replicate (w - length ds) 48 ++ ds

shown : (w : ℕ) (ds : List ℕ) → padded_integral (format_spec 32 0 4 w (2 ^ 64 - 1)) false [] ds ≡ zeroed w ds
unfolding padded_integral char_count
shown w ds = simp (unary_clauses, append-nil) refl

ends : (k : ℕ) → replicate {A = ℕ} (suc k) 48 ≡ replicate k 48 ++ 48 ∷ []
ends zero = refl
ends (suc k) = ap (λ (xs : List ℕ). 48 ∷ xs) (ends k)

-- the last digit apart
one : (k x : ℕ) → zeroed (suc (suc k)) (x ∷ []) ≡ zeroed (suc k) (48 ∷ []) ++ x ∷ []
one k x = simp unary_clauses (ap (λ (xs : List ℕ). xs ++ x ∷ []) (ends k))

push : (w x : ℕ) (ds : List ℕ) → zeroed (suc w) (ds ++ x ∷ []) ≡ zeroed w ds ++ x ∷ []
push w x ds =
    let e : suc w - length (ds ++ x ∷ []) ≡ w - length ds = rw length-append (omega arith) in
    rw e (sym (append_assoc (replicate (w - length ds) 48) ds (x ∷ [])))

more : (k n : ℕ) → n < 2 ^ 64 → zeroed (suc (suc k)) (decimal n) ≡ zeroed (suc k) (decimal (n / 10)) ++ decimal (n % 10)
more k n small = elim (cases_lt n 10) [
  | inl l ↦
      let q : n / 10 ≡ 0 = omega arith in
      let r : n % 10 ≡ n = omega arith in
      rw (q, r, decimal_digit n l, decimal_digit 0 (omega arith)) (one k (48 + n))
  | inr l ↦ rw (decimal_step n l small, decimal_digit (n % 10) (omega arith)) (push (suc k) (48 + n % 10) (decimal (n / 10)))
]

tens : (n : ℕ) → n < 2 ^ 64 → zeroed 2 (decimal n) ≡ padded n
tens n small =
    let e : 1 - length (decimal (n / 10)) ≡ 0 = omega (arith, decimal_nonempty (n / 10) (omega arith)) in
    more 0 n small ∙ rw e refl

-- what `{:02}` and `{:04}` write
pub two_digits : (s : _) (n : ℕ) → s ≡ format_spec 32 0 4 2 (2 ^ 64 - 1) → n < 2 ^ 64 → styled_decimal s n ≡ padded n
two_digits s n e small = rw e (shown 2 (decimal n) ∙ tens n small)

pub four_digits : (s : _) (n : ℕ) → s ≡ format_spec 32 0 4 4 (2 ^ 64 - 1) → n < 2 ^ 64 → styled_decimal s n ≡ padded (n / 100) ++ padded (n % 100)
four_digits s n e small =
    let h : n / 10 / 10 ≡ n / 100 = omega arith in
    let t : n / 10 % 10 ≡ n % 100 / 10 = omega arith in
    let o : n % 10 ≡ n % 100 % 10 = omega arith in
    rw e (shown 4 (decimal n) ∙ more 2 n small ∙ ap (λ (xs : List ℕ). xs ++ decimal (n % 10)) (more 1 (n / 10) (omega arith)
    ∙ ap (λ (xs : List ℕ). xs ++ decimal (n / 10 % 10)) (tens (n / 10 / 10) (omega arith)))
    ∙ append_assoc (padded (n / 10 / 10)) (decimal (n / 10 % 10)) (decimal (n % 10)) ∙ rw (h, t, o) refl)
