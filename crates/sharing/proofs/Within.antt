-- What the limits keep in range.
use Rattle.std.proofs.Common.{ℕ, zero, suc, ◌*◌, ◌<◌, ◌≤◌, List, length, ℤ, nat_abs, ap, mul-le-mul_left, arith}
use Rattle.std.proofs.lemmas.Int.{ints}
use Rattle.sharing.specs.Sharing.{at}
use Rattle.sharing.specs.Limits.{Limits}
use Rattle.sharing.specs.Steps.{sum_to, total, floors, rests, floor_of}
use Rattle.sharing.proofs.Sums.{total_most, total_up, total_at, sizes_is}
use Rattle.sharing.proofs.Division.{part, floor_size}

-- the sum of the floors is no larger than the sum of the products
floors_size : (p q : ℕ) (f : ℕ → ℤ) (n : ℕ) → 0 < q → nat_abs (sum_to n (λ k. floor_of p q (f k))) ≤ p * total n (λ k. nat_abs (f k))
floors_size p q f zero h = omega arith
floors_size p q f (suc n) h =
    omega (arith, ints, floors_size p q f n h, floor_size p q h (f n))

module _ (p q : ℕ) (vs : List ℤ) (h : Limits p q vs) where
  abbrev size : ℕ → ℕ
  size k = nat_abs (at vs k)

  up_to : (n : ℕ) → n ≤ length vs → p * total n size ≤ 9000000000000000000
  up_to n l = omega (arith, h.product, mul-le-mul_left p (total_up size n (length vs) l), ap (λ (m : ℕ). p * m) (sizes_is vs))

  pub product_within : (i : ℕ) → i < length vs → p * nat_abs (at vs i) ≤ 9000000000000000000
  product_within i l = omega (arith, up_to (length vs) (omega arith), mul-le-mul_left p (total_at size i (length vs) l))

  pub floor_within : (i : ℕ) → i < length vs → nat_abs (floors p q vs i) ≤ 9000000000000000000
  floor_within i l = omega (arith, product_within i l, floor_size p q h.some (at vs i))

  pub floors_within : (n : ℕ) → n ≤ length vs → nat_abs (sum_to n (floors p q vs)) ≤ 9000000000000000000
  floors_within n l = omega (arith, up_to n l, floors_size p q (at vs) n h.some)

  pub rests_within : (n : ℕ) → n ≤ length vs → total n (rests p q vs) ≤ 40000000000000
  rests_within n l =
      omega (
        arith,
        h.few,
        total_most n 1000000000000 (rests p q vs) (λ i m. omega (arith, h.bottom, (part p q h.some (at vs i)).below)),
      )
