-- What every sharing of an amount keeps, and that there is one.
use Rattle.std.proofs.Common.{◌≡◌, ℕ, ◌+◌, ◌*◌, ◌<◌, ◌≤◌, List, [], ◌∷◌, map, length, ℤ, pos, negsuc, ◌+ℤ◌, ◌-ℤ◌, ◌*ℤ◌, nat_abs, ◌≤ℤ◌, ◌<ℤ◌, sym, refl, ap, ◌∙◌, inl, inr, mul-le-mul_right, mul_comm, arith}
use Rattle.std.proofs.lemmas.List.{ext_get_or, length-map, get_or_past}
use Rattle.std.proofs.lemmas.Int.{ints}
use Rattle.std.proofs.lemmas.Bool.{cases_lt}
use Rattle.sharing.specs.Sharing.{at, sum, sizes, Part, Shared}
use Rattle.sharing.specs.Limits.{Limits}
use Rattle.sharing.specs.Amounts.{size, signed, whole, Over, Fairly, OneOver}
use Rattle.sharing.specs.Steps.{sum_to}
use Rattle.sharing.proofs.Sums.{sum_to_lt, sum_to_scaled, sum_is, spread}
use Rattle.sharing.proofs.Division.{cancel}
use Rattle.sharing.proofs.Columns.{at_map}
use Rattle.sharing.proofs.Signs.{signed_nil, signed_twice, signed_size, unsigned_abs_signed, sum_signed, signed_both}
use Rattle.sharing.proofs.Unique.{one_way}

pub sum_map_size : (ws : List ℤ) → sum (map size ws) ≡ pos (sizes ws)
sum_map_size [] = refl
sum_map_size (w ∷ ws) = ap (λ (z : ℤ). size w +ℤ z) (sum_map_size ws)

pub sizes_map_size : (ws : List ℤ) → sizes (map size ws) ≡ sizes ws
sizes_map_size [] = refl
sizes_map_size (w ∷ ws) = ap (λ (z : ℕ). nat_abs w + z) (sizes_map_size ws)

signed_injective : (a : ℤ) (ss zs : List ℤ) → map (signed a) ss ≡ map (signed a) zs → length ss ≡ length zs → ss ≡ zs
signed_injective a ss zs e l = ext_get_or (pos 0) ss zs l (λ k m.
    sym (signed_twice a (at ss k)) ∙ ap (signed a) (sym (at_map (signed a) (signed_nil a) ss k) ∙ ap (λ xs. at xs k) e ∙ at_map (signed a) (signed_nil a) zs k)
    ∙ signed_twice a (at zs k))

pub one_over : OneOver
one_over a ws ss zs x y = signed_injective a ss zs (one_way (nat_abs a) (whole ws) (map size ws) (map (signed a) ss) (map (signed a) zs) (size a) (size a) (omega arith) x y).0
    (sym (length-map ss (signed a)) ∙ x.long ∙ sym y.long ∙ length-map zs (signed a))

-- the size of the amount goes into the sizes of the weights with nothing left
evenly : (a : ℤ) (ws : List ℤ) → (sizes ws ≡ 0 → nat_abs a ≡ 0) → pos (nat_abs a) *ℤ sum (map size ws) ≡ pos (whole ws) *ℤ size a
evenly a ws n = elim (cases_lt 0 (sizes ws)) [
  | inl l ↦ let e : whole ws ≡ sizes ws = omega arith in
      ap (λ (z : ℤ). pos (nat_abs a) *ℤ z) (sum_map_size ws) ∙ ap pos (mul_comm (nat_abs a) (sizes ws) ∙ ap (λ (m : ℕ). m * nat_abs a) (sym e))
  | inr l ↦ let z : nat_abs a ≡ 0 = n (omega arith) in
      rw z (omega (arith, ints))
]

-- a share of a claim that is not below zero
module _ (p q v : ℕ) where
  not_below : (f : ℤ) (x : ℕ) → Part p q (pos v) f x → pos 0 ≤ℤ f
  not_below f x h =
      let l : negsuc 0 <ℤ f = cancel q (negsuc 0) f (omega (arith, ints, h.is, h.below)) in
      omega (arith, ints)

  at_most : (f : ℤ) (x : ℕ) → p ≤ q → Part p q (pos v) f x → f ≤ℤ pos v
  at_most f x l h =
      let m : f <ℤ pos (v + 1) = cancel q f (pos (v + 1)) (omega (arith, ints, h.is, h.below, mul-le-mul_right v l)) in
      omega (arith, ints)

  at_most_less : (f : ℤ) (x : ℕ) → p ≤ q → 0 < x → Part p q (pos v) f x → f <ℤ pos v
  at_most_less f x l m h = cancel q f (pos v) (omega (arith, ints, h.is, h.below, mul-le-mul_right v l))

-- where the total is exact, a claim with no remainder has no unit more
module _ (p q : ℕ) (vs ss : List ℤ) (t : ℤ) (o : 0 < q) (h : Shared p q vs ss t) (exact : pos p *ℤ sum vs ≡ pos q *ℤ t) where
  above : (k j y : ℕ) → k < length vs → j < length vs → Part p q (at vs k) (at ss k -ℤ pos 1) 0 → Part p q (at vs j) (at ss j) y
      → (pos p *ℤ at vs j) ≤ℤ (pos q *ℤ at ss j)
  above k j y l m u w = elim (h.first k j 0 y l m u w) [ inl a ↦ absurd (omega arith) | inr a ↦ omega (arith, ints, w.is, a.0) ]

  up_by : (j y : ℕ) → Part p q (at vs j) (at ss j -ℤ pos 1) y → (pos p *ℤ at vs j) <ℤ (pos q *ℤ at ss j)
  up_by j y w =
      let e : (at ss j -ℤ pos 1) +ℤ pos 1 ≡ at ss j = omega (arith, ints) in
      omega (arith, ints, w.is, w.below, spread q (at ss j -ℤ pos 1) (pos 1), ap (λ (z : ℤ). pos q *ℤ z) e)

  no_unit : (k : ℕ) → k < length vs → Part p q (at vs k) (at ss k -ℤ pos 1) 0 → ⊥
  no_unit k l u =
      let less : (j : ℕ) → j < length vs → (pos p *ℤ at vs j) ≤ℤ (pos q *ℤ at ss j) = λ j m.
      elim (h.each j m).1 [ inl w ↦ above k j _ l m u w | inr w ↦ omega (arith, ints, up_by j _ w) ] in
      let s = sum_to_lt (length vs) (λ j. pos p *ℤ at vs j) (λ j. pos q *ℤ at ss j) k l less (up_by k 0 u) in
      omega (
        arith,
        ints,
        exact,
        sum_to_scaled p (length vs) (at vs),
        sum_to_scaled q (length vs) (at ss),
        ap (λ (z : ℤ). pos p *ℤ z) (sum_is vs),
        ap (λ (z : ℤ). pos q *ℤ z) (ap (λ (n : ℕ). sum_to n (at ss)) (sym h.long) ∙ sum_is ss ∙ h.whole),
      )

-- a share of a claim of size v
pub record Apt (p q v : ℕ) (s : ℤ) : Type 0 where
  pub low : pos 0 ≤ℤ s
  pub high : p ≤ q → s ≤ℤ pos v
  pub nil : v ≡ 0 → s ≡ pos 0

module _ (p q v : ℕ) (s : ℤ) (x : ℕ) where
  plain : Part p q (pos v) s x → Apt p q v s
  plain h = record {
    low = not_below p q v s x h;
    high = λ l. at_most p q v s x l h;
    nil = λ e.
        let h' : Part 0 q (pos 0) s x = record { is = omega (arith, ints, h.is, ap (λ (n : ℕ). p * n) e); below = h.below } in
        omega (arith, ints, at_most 0 q 0 s x (omega arith) h', not_below 0 q 0 s x h');
  }

  extra : 0 < x → Part p q (pos v) (s -ℤ pos 1) x → Apt p q v s
  extra o h = record {
    low = omega (arith, ints, not_below p q v (s -ℤ pos 1) x h);
    high = λ l. omega (arith, ints, at_most_less p q v (s -ℤ pos 1) x l o h);
    nil = λ e.
        let h' : Part 0 q (pos 0) (s -ℤ pos 1) x = record { is = omega (arith, ints, h.is, ap (λ (n : ℕ). p * n) e); below = h.below } in
        absurd (omega (arith, ints, at_most_less 0 q 0 (s -ℤ pos 1) x (omega arith) o h', not_below 0 q 0 (s -ℤ pos 1) x h'));
  }

module _ (a : ℤ) (ws ss : List ℤ) (h : Over a ws ss) where
  none_zero : sizes ws ≡ 0 → nat_abs a ≡ 0
  none_zero e =
      let one : whole ws ≡ 1 = omega arith in
      omega (arith, ints, h.nearest.low, ap (λ (z : ℤ). pos (2 * nat_abs a) *ℤ z) (sum_map_size ws ∙ ap pos e), ap (λ (n : ℕ). pos (2 * n) *ℤ size a) one)

  exact : pos (nat_abs a) *ℤ sum (map size ws) ≡ pos (whole ws) *ℤ size a
  exact = evenly a ws none_zero

  apt : (k : ℕ) → k < length ws → Apt (nat_abs a) (whole ws) (nat_abs (at ws k)) (signed a (at ss k))
  apt k l =
      let m : k < length (map size ws) = rw length-map l in
      let r = h.each k m in
      let V = at_map size refl ws k in
      let S = at_map (signed a) (signed_nil a) ss k in
      let res : Apt (nat_abs a) (whole ws) (nat_abs (at ws k)) (at (map (signed a) ss) k) = elim r.1 [
        | inl w ↦ plain _ _ (nat_abs (at ws k)) _ r.0 (rw V at w)
        | inr w ↦ elim (cases_lt 0 r.0) [
          | inl o ↦ extra _ _ (nat_abs (at ws k)) _ r.0 o (rw V at w)
          | inr o ↦ let e : r.0 ≡ 0 = omega arith in
              absurd (no_unit (nat_abs a) (whole ws) (map size ws) (map (signed a) ss) (size a) (omega arith) h exact k m (rw e at w))
        ]
      ] in
      rw S at res

  long' : length ss ≡ length ws
  long' = sym (length-map ss (signed a)) ∙ h.long ∙ length-map ws size

  past : (k : ℕ) → length ws ≤ k → at ss k ≡ pos 0
  past k l = get_or_past ss k (pos 0) (omega (arith, long'))

pub fairly : Fairly
fairly a ws ss h = record {
  long = long' a ws ss h;
  all = sym (signed_twice a (sum ss)) ∙ ap (signed a) (sym (sum_signed a ss) ∙ h.whole) ∙ signed_size a;
  none = λ k e. elim (cases_lt k (length ws)) [
    | inl l ↦ sym (signed_twice a (at ss k)) ∙ ap (signed a) ((apt a ws ss h k l).nil (ap nat_abs e)) ∙ signed_nil a
    | inr l ↦ past a ws ss h k l
  ];
  side = λ k. elim (cases_lt k (length ws)) [
    | inl l ↦ (apt a ws ss h k l).low
    | inr l ↦ omega (arith, ints, ap (signed a) (past a ws ss h k l), signed_nil a)
  ];
  most = λ m k. elim (cases_lt k (length ws)) [
    | inl l ↦ omega (
      arith,
      ints,
      unsigned_abs_signed a (at ss k),
      (apt a ws ss h k l).low,
      (apt a ws ss h k l).high (omega arith),
    )
    | inr l ↦ omega (arith, ap nat_abs (past a ws ss h k l))
  ];
}

-- how an amount comes to be shared
pub limits_sized : (p q : ℕ) (ws : List ℤ) → Limits p q ws → Limits p q (map size ws)
limits_sized p q ws h = record {
  few = rw length-map h.few;
  small = λ k l. rw (at_map size refl ws k) (h.small k (rw length-map at l));
  top = h.top;
  some = h.some;
  bottom = h.bottom;
  product = rw sizes_map_size h.product;
}

module _ (a : ℤ) (ws ss : List ℤ) (t : ℤ) (n : sizes ws ≡ 0 → a ≡ pos 0) (h : Shared (nat_abs a) (whole ws) (map size ws) ss t) where
  total_is : t ≡ size a
  total_is =
      let q = whole ws in
      let s = h.nearest in
      let up : t <ℤ (size a +ℤ pos 1) = cancel (2 * q) t (size a +ℤ pos 1) (omega (arith, ints, evenly a ws (λ z. ap nat_abs (n z)), s.low, spread (2 * q) (size a) (pos 1))) in
      let down : size a <ℤ (t +ℤ pos 1) = cancel (2 * q) (size a) (t +ℤ pos 1) (omega (arith, ints, evenly a ws (λ z. ap nat_abs (n z)), s.high, spread (2 * q) t (pos 1))) in
      omega (arith, ints)

  pub over_from : Over a ws (map (signed a) ss)
  over_from = rw (signed_both a ss) (rw total_is at h)

  pub low_from : (k : ℕ) → pos 0 ≤ℤ at ss k
  low_from k = elim (cases_lt k (length ws)) [
    | inl l ↦
        let m : k < length (map size ws) = rw length-map l in
        let r = h.each k m in
        let V = at_map size refl ws k in
        elim r.1 [
          | inl w ↦ not_below (nat_abs a) (whole ws) (nat_abs (at ws k)) _ r.0 (rw V at w)
          | inr w ↦ omega (arith, ints, not_below (nat_abs a) (whole ws) (nat_abs (at ws k)) _ r.0 (rw V at w))
        ]
    | inr l ↦ omega (arith, ints, get_or_past ss k (pos 0) (omega (arith, h.long, length-map ws size)))
  ]
