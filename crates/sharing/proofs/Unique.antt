-- The rule leaves one list of shares and one total.
use Rattle.std.proofs.Common.{◌≡◌, ℕ, ◌*◌, ◌<◌, List, length, ℤ, pos, ◌+ℤ◌, ◌≤ℤ◌, ◌<ℤ◌, sym, ap, ◌∙◌, arith}
use Rattle.std.proofs.lemmas.List.{ext_get_or}
use Rattle.std.proofs.lemmas.Int.{ints}
use Rattle.sharing.specs.Sharing.{at, Nearest, OneWay}
use Rattle.sharing.specs.Steps.{sum_to, floors}
use Rattle.sharing.proofs.Sums.{sum_to_lt}
use Rattle.sharing.proofs.Division.{cancel}
use Rattle.sharing.proofs.Dealt.{Before, Dealt, dealt_from}

not_both : (p q : ℕ) (vs : List ℤ) (i j : ℕ) → Before p q vs i j → Before p q vs j i → ⊥
not_both p q vs i j a b = grind arith

pub one_nearest : (p q : ℕ) (v t u : ℤ) → Nearest p q v t → Nearest p q v u → t ≡ u
one_nearest p q v t u a b =
    let c : t <ℤ (u +ℤ pos 1) = cancel (2 * q) t (u +ℤ pos 1) (omega (arith, ints, a.low, b.high)) in
    let d : u <ℤ (t +ℤ pos 1) = cancel (2 * q) u (t +ℤ pos 1) (omega (arith, ints, b.low, a.high)) in
    omega (arith, ints)

module _ (p q : ℕ) (vs : List ℤ) where
  -- none has a unit more in the one than in the other
  no_more : (ss zs : List ℤ) (t : ℤ) → Dealt p q vs ss t → Dealt p q vs zs t → (i : ℕ) → i < length vs
      → at ss i ≡ floors p q vs i +ℤ pos 1 → at zs i ≡ floors p q vs i → ⊥
  no_more ss zs t a b i l x y =
      let less : (j : ℕ) → j < length vs → at zs j ≤ℤ at ss j = λ j m. grind (arith, ints, a.each j m, b.each j m, not_both p q vs i j, a.first i j l m x, b.first j i m l) in
      let s = sum_to_lt (length vs) (at zs) (at ss) i l less (omega (arith, ints)) in
      let whole-a = ap (λ (n : ℕ). sum_to n (at ss)) a.long in
      let whole-b = ap (λ (n : ℕ). sum_to n (at zs)) b.long in
      omega (arith, ints, a.whole, b.whole)

  same_share : (ss zs : List ℤ) (t : ℤ) → Dealt p q vs ss t → Dealt p q vs zs t → (i : ℕ) → i < length vs → at ss i ≡ at zs i
  same_share ss zs t a b i l = grind (arith, ints, a.each i l, b.each i l, no_more ss zs t a b i l, no_more zs ss t b a i l)

one_dealt : (p q : ℕ) (vs ss zs : List ℤ) (t u : ℤ) → 0 < q → Dealt p q vs ss t → Dealt p q vs zs u → (ss ≡ zs) × (t ≡ u)
one_dealt p q vs ss zs t u h a b =
    let e = one_nearest p q _ t u a.nearest b.nearest in
    let b' : Dealt p q vs zs t = rw e b in
    (ext_get_or (pos 0) ss zs (a.long ∙ sym b.long) (λ i l. same_share p q vs ss zs t a b' i (omega (arith, a.long))), e)

pub one_way : OneWay
one_way p q vs ss zs t u h a b = one_dealt p q vs ss zs t u h (dealt_from p q h vs ss t a) (dealt_from p q h vs zs u b)
