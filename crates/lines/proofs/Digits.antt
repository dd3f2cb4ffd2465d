-- Numbers of two digits.
use Rattle.std.proofs.Common.{◌≡◌, ℕ, ◌+◌, ◌*◌, ◌/◌, ◌%◌, ◌<◌, [], ◌∷◌, get_or, refl, ap, ◌∙◌, arith}
use Rattle.std.proofs.lemmas.Fmt.{decimal_digit}
use Rattle.kinds.specs.Texts.{padded}
use Rattle.lines.specs.Dates.{Digit, Pair}

pub padded_two : (n : ℕ) → n < 100 → padded n ≡ (48 + n / 10) ∷ (48 + n % 10) ∷ []
padded_two n h = rw (decimal_digit (n / 10) (omega arith), decimal_digit (n % 10) (omega arith)) refl

pub two : (a b t u : ℕ) → Digit a t → Digit b u → Pair (a ∷ b ∷ []) (t * 10 + u)
two a b t u g h =
    let tens : (t * 10 + u) / 10 ≡ t = omega (arith, g.0, h.0) in
    let units : (t * 10 + u) % 10 ≡ u = omega (arith, g.0, h.0) in
    (omega (arith, g.0, h.0), rw (padded_two (t * 10 + u) (omega (arith, g.0, h.0)), tens, units, g.1, h.1) refl)

pub tens : (a b n : ℕ) → Pair (a ∷ b ∷ []) n → Digit a (n / 10)
tens a b n h = (omega (arith, h.0), ap (λ w. get_or w 0 0) (h.1 ∙ padded_two n h.0))

pub units : (a b n : ℕ) → Pair (a ∷ b ∷ []) n → Digit b (n % 10)
units a b n h = (omega arith, ap (λ w. get_or w 1 0) (h.1 ∙ padded_two n h.0))
