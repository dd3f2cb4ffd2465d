-- How large the numerators and the figures are, and how they are ordered.
use Rattle.std.proofs.Common.{◌≡◌, ℕ, ◌+◌, ◌-◌, ◌*◌, ◌/◌, ◌<◌, ◌≤◌, min, sym, ap, ◌∙◌, add-mul, mul-add, arith}
use Rattle.std.proofs.Math.Nat.{div-le_of_le-mul}
use Rattle.std.proofs.lemmas.Nat.{mul-le, le-div, div-add-mod'}

-- a tolerance, or both, times at most twice the whole of a share
pub product_most : (x k : ℕ) → x ≤ 20000000000 → k ≤ 2400 → x * k ≤ 48000000000000
product_most x k h l = mul-le x k 20000000000 2400 h l

-- that times the talon
pub talon_most : (x t : ℕ) → x ≤ 48000000000000 → t ≤ 100 → x * t ≤ 4800000000000000
talon_most x t h l = mul-le x t 48000000000000 100 h l

-- rounding down keeps an order
pub div_mono : (a b k : ℕ) → 0 < k → a ≤ b → a / k ≤ b / k
div_mono a b k some h = le-div (a / k) b k some (omega (arith, div-add-mod' a k))

-- a numerator of at most 10,000,000,000,000 × d is a figure of at most 100,000,000
at_most : (x d : ℕ) → x ≤ 10000000000000 * d → x / (100260 * d) ≤ 100000000
at_most x d h = div-le_of_le-mul (100260 * d) (omega arith)

-- no figure passes 100,000,000
pub upper_most : (s o n d : ℕ) → s ≤ 10000000000 → o ≤ 10000000000 → n ≤ d → 100 * (s * d + o * (d + n)) / (100260 * d) ≤ 100000000
upper_most s o n d h1 h2 h3 =
    at_most _ d (omega (arith, mul-le s d 10000000000 d h1 (omega arith), mul-le o (d + n) 10000000000 (2 * d) h2 (omega arith)))

pub limit_most : (s o d t : ℕ) → s ≤ 10000000000 → o ≤ 10000000000 → t ≤ 100 → 5 * ((s + o) * d * t) / (100260 * d) ≤ 100000000
limit_most s o d t h1 h2 h3 =
    let both : (s + o) * d ≤ 20000000000 * d = mul-le (s + o) d 20000000000 d (omega arith) (omega arith) in
    at_most _ d (omega (arith, mul-le ((s + o) * d) t (20000000000 * d) 100 both h3))

-- the outer figure of the upper side is never above the allowed one: the middle of the two edges is the unit at 100 percent
pub outer_within : (s o n d t i : ℕ) → 0 < d → n ≤ d → t ≤ 100 → i ≡ min ((s + o) * d * t) (100 * (s * d + o * (d - n)))
    → (2 * ((s + o) * d * t) - i) / (100260 * d) ≤ 100 * (s * d + o * (d + n)) / (100260 * d)
outer_within s o n d t i some h1 h2 e =
    let e1 : o * (d + n) ≡ o * d + o * n = mul-add o d n in
    let back : d - n + n ≡ d = omega arith in
    let e2 : o * (d - n) + o * n ≡ o * d = sym (mul-add o (d - n) n) ∙ ap (λ k. o * k) back in
    let e3 : (s + o) * d ≡ s * d + o * d = add-mul s o d in
    let all : (s + o) * d * t ≤ (s + o) * d * 100 = mul-le ((s + o) * d) t ((s + o) * d) 100 (omega arith) h2 in
    let more : o * (d - n) ≤ o * (d + n) = mul-le o (d - n) o (d + n) (omega arith) (omega arith) in
    div_mono _ _ (100260 * d) (omega arith) (omega arith)

-- what the bands from exact fractions cite
pub ruleset bounds = (product_most, talon_most, upper_most, limit_most, outer_within)
