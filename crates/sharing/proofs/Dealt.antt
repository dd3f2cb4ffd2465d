-- Floors, and units to the first ranks, are a sharing, and every sharing is of this form.
use Rattle.std.proofs.Common.{◌≡◌, ℕ, zero, suc, ◌+◌, ◌*◌, ◌/◌, ◌<◌, ◌≤◌, Bool, true, false, ltb, ◌⊎◌, List, length, ℤ, pos, ◌+ℤ◌, ◌-ℤ◌, ◌*ℤ◌, sym, ap, ◌∙◌, inl, inr, mul-le-mul_left, arith}
use Rattle.std.proofs.lemmas.Int.{ints}
use Rattle.std.proofs.lemmas.Bool.{cases_lt, ltb-true, ltb-false}
use Rattle.sharing.specs.Sharing.{at, Part, Nearest, Shared}
use Rattle.sharing.specs.Steps.{sum_to, total, floor_of, rest_of, floors, rests, bit, rank_of, due_of}
use Rattle.sharing.proofs.Sums.{total_most, sums_with, sum_is, spread}
use Rattle.sharing.proofs.Ranks.{ranked, ahead_out, rank_order}
use Rattle.sharing.proofs.Division.{part, same_floor, same_rest}

abbrev pub Before : ℕ → ℕ → List ℤ → ℕ → ℕ → Type 0
Before p q vs i j = (rests p q vs j < rests p q vs i) ⊎ ((rests p q vs i ≡ rests p q vs j) × (i < j))

-- a sharing, by floors and sums over places
pub record Dealt (p q : ℕ) (vs ss : List ℤ) (t : ℤ) : Type 0 where
  pub long : length ss ≡ length vs
  pub whole : sum_to (length ss) (at ss) ≡ t
  pub nearest : Nearest p q (sum_to (length vs) (at vs)) t
  pub each : (k : ℕ) → k < length vs → (at ss k ≡ floors p q vs k) ⊎ (at ss k ≡ floors p q vs k +ℤ pos 1)
  pub first : (i j : ℕ) → i < length vs → j < length vs → at ss i ≡ floors p q vs i +ℤ pos 1 → at ss j ≡ floors p q vs j → Before p q vs i j

module _ (p q : ℕ) (h : 0 < q) where
  plain : (v s : ℤ) → s ≡ floor_of p q v → Part p q v s (rest_of p q v)
  plain v s e = rw e (part p q h v)

  less_one : (s f : ℤ) → s ≡ f +ℤ pos 1 → s -ℤ pos 1 ≡ f
  less_one s f e = omega (arith, ints)

  extra : (v s : ℤ) → s ≡ floor_of p q v +ℤ pos 1 → Part p q v (s -ℤ pos 1) (rest_of p q v)
  extra v s e = let d = less_one s (floor_of p q v) e in rw d (part p q h v)

  is_plain : (v s : ℤ) (x : ℕ) → Part p q v s x → s ≡ floor_of p q v
  is_plain v s x a = same_floor p q h v s (floor_of p q v) x (rest_of p q v) a (part p q h v)

  is_extra : (v s : ℤ) (x : ℕ) → Part p q v (s -ℤ pos 1) x → s ≡ floor_of p q v +ℤ pos 1
  is_extra v s x a = omega (arith, ints, same_floor p q h v (s -ℤ pos 1) (floor_of p q v) x (rest_of p q v) a (part p q h v))

  pub shared_from : (vs ss : List ℤ) (t : ℤ) → Dealt p q vs ss t → Shared p q vs ss t
  shared_from vs ss t d = record {
    long = d.long;
    whole = sym (sum_is ss) ∙ d.whole;
    nearest = rw (sum_is vs) at d.nearest;
    each = λ k l. (rest_of p q (at vs k), elim (d.each k l) [ inl e ↦ inl (plain (at vs k) (at ss k) e) | inr e ↦ inr (extra (at vs k) (at ss k) e) ]);
    first = λ i j x y l m a b.
        let ex = same_rest p q h (at vs i) (at ss i -ℤ pos 1) (floor_of p q (at vs i)) x (rest_of p q (at vs i)) a (part p q h (at vs i)) in
        let ey = same_rest p q h (at vs j) (at ss j) (floor_of p q (at vs j)) y (rest_of p q (at vs j)) b (part p q h (at vs j)) in
        rw (ex, ey) (d.first i j l m (is_extra (at vs i) (at ss i) x a) (is_plain (at vs j) (at ss j) y b));
  }

  pub dealt_from : (vs ss : List ℤ) (t : ℤ) → Shared p q vs ss t → Dealt p q vs ss t
  dealt_from vs ss t d = record {
    long = d.long;
    whole = sum_is ss ∙ d.whole;
    nearest = rw sum_is d.nearest;
    each = λ k l. elim (d.each k l).1 [ inl e ↦ inl (is_plain (at vs k) (at ss k) _ e) | inr e ↦ inr (is_extra (at vs k) (at ss k) _ e) ];
    first = λ i j l m a b. d.first i j _ _ l m (extra (at vs i) (at ss i) a) (plain (at vs j) (at ss j) b);
  }

-- p times the sum is q times the floors and the remainders
sums : (p q : ℕ) (f : ℕ → ℤ) (n : ℕ) → 0 < q
    → pos p *ℤ sum_to n f ≡ pos q *ℤ sum_to n (λ k. floor_of p q (f k)) +ℤ pos (total n (λ k. rest_of p q (f k)))
sums p q f zero h = omega (arith, ints)
sums p q f (suc n) h = omega (
  arith,
  ints,
  sums p q f n h,
  (part p q h (f n)).is,
  spread p (sum_to n f) (f n),
  spread q (sum_to n (λ k. floor_of p q (f k))) (floor_of p q (f n)),
)

-- k is the whole number nearest to r / q, of two the upper one
rounded : (q r k : ℕ) → 0 < q → k ≡ (2 * r + q) / (2 * q) → (2 * q * k ≤ 2 * r + q) × (2 * r + q < 2 * q * (k + 1))
rounded q r k h e = rw e (omega arith, omega arith)

-- the nearest whole: the floors, and the nearest whole of what they leave
nearest_of : (p q : ℕ) (v s : ℤ) (r k : ℕ) → 0 < q → pos p *ℤ v ≡ pos q *ℤ s +ℤ pos r → k ≡ (2 * r + q) / (2 * q) → Nearest p q v (s +ℤ pos k)
nearest_of p q v s r k h e d =
    let a = spread (2 * q) s (pos k) in
    let b = spread (2 * q) (s +ℤ pos k) (pos 1) in
    let c = rounded q r k h d in
    record { low = omega (arith, ints); high = omega (arith, ints) }

-- no more is lacking than there are claims
lacking_most : (n q r k : ℕ) → 0 < q → r ≤ n * q → k ≡ (2 * r + q) / (2 * q) → k ≤ n
lacking_most n q r k h l e =
    let c = rounded q r k h e in
    elim (cases_lt n k) [
      | inl m ↦ let f : 2 * q * (n + 1) ≤ 2 * q * k = mul-le-mul_left (2 * q) (omega arith) in omega arith
      | inr m ↦ m
    ]

-- a share with a unit more has a rank below what is lacking, and one without has not
with_bit : (f : ℤ) (c : Bool) → f +ℤ pos (bit c) ≡ f +ℤ pos 1 → c ≡ true
with_bit f c e = grind (arith, ints)

no_bit : (f : ℤ) (c : Bool) → f +ℤ pos (bit c) ≡ f → c ≡ false
no_bit f c e = grind (arith, ints)

one_of : (f s : ℤ) (c : Bool) → s ≡ f +ℤ pos (bit c) → (s ≡ f) ⊎ (s ≡ f +ℤ pos 1)
one_of f s c e = grind (arith, ints)

-- what is due by rank is a sharing
module _ (p q : ℕ) (vs ss : List ℤ) (k : ℕ) (h : 0 < q) (long : length ss ≡ length vs) where
  order : (i j : ℕ) → i < length vs → j < length vs → rank_of (length vs) (rests p q vs) i < k → k ≤ rank_of (length vs) (rests p q vs) j → Before p q vs i j
  order i j l m a b = ahead_out (rests p q vs) i j (rank_order (rests p q vs) (length vs) i j m (omega arith))

  pub dealt : k ≡ (2 * total (length vs) (rests p q vs) + q) / (2 * q)
      → ((i : ℕ) → i < length vs → at ss i ≡ due_of (length vs) (floors p q vs) (rests p q vs) k i)
      → Shared p q vs ss (sum_to (length vs) (floors p q vs) +ℤ pos k)
  dealt lack each =
      let m = length vs in
      let r = rests p q vs in
      let few : k ≤ m = lacking_most m q (total m r) k h (total_most m q r (λ i l. omega (arith, (part p q h (at vs i)).below))) lack in
      shared_from p q h vs ss _ (record {
        long = long;
        whole = ap (λ (j : ℕ). sum_to j (at ss)) long ∙ sums_with m (at ss) (floors p q vs) (λ i. bit (ltb (rank_of m r i) k)) each ∙ ap (λ (j : ℕ). sum_to m (floors p q vs) +ℤ pos j) (ranked r m k few);
        nearest = nearest_of p q (sum_to m (at vs)) (sum_to m (floors p q vs)) (total m r) k h (sums p q (at vs) m h) lack;
        each = λ i l. one_of (floors p q vs i) (at ss i) (ltb (rank_of m r i) k) (each i l);
        first = λ i j l o a b.
            order i j l o
            (ltb-true _ _ (with_bit (floors p q vs i) (ltb (rank_of m r i) k) (sym (each i l) ∙ a)))
            (ltb-false _ _ (no_bit (floors p q vs j) (ltb (rank_of m r j) k) (sym (each j o) ∙ b)));
      })
