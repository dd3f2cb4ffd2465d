-- Division of a product: the quotient rounded downward, the remainder, and their sizes.
use Rattle.std.proofs.Common.{◌≡◌, ℕ, ◌+◌, ◌*◌, ◌<◌, ◌≤◌, ℤ, pos, negsuc, ◌+ℤ◌, ◌*ℤ◌, nat_abs, ◌<ℤ◌, ap, mul-le-mul_left, arith}
use borrow.Author.Differences.{le_out}
use Rattle.std.proofs.lemmas.Int.{ints, by_lt_z, unsigned_abs-mul}
use Rattle.std.specs.Int.{int_div_euclid, int_rem_euclid}
use Rattle.sharing.specs.Sharing.{Part}
use Rattle.sharing.specs.Steps.{floor_of, rest_of}
use Rattle.sharing.proofs.Sums.{spread}

-- a whole number is its quotient times the divisor and its remainder
split : (z : ℤ) (q : ℕ) → 0 < q → z ≡ pos q *ℤ int_div_euclid z (pos q) +ℤ pos (nat_abs (int_rem_euclid z (pos q)))
split (pos a) q h = omega (arith, ints)
split (negsuc a) q h = omega (arith, ints)

rest_below : (z : ℤ) (q : ℕ) → 0 < q → nat_abs (int_rem_euclid z (pos q)) < q
rest_below (pos a) q h = omega arith
rest_below (negsuc a) q h = omega arith

quotient_size : (z : ℤ) (q : ℕ) → 0 < q → nat_abs (int_div_euclid z (pos q)) ≤ nat_abs z
quotient_size (pos a) q h = omega arith
quotient_size (negsuc a) q h = omega arith

pub sum_size : (a b : ℤ) → nat_abs (a +ℤ b) ≤ nat_abs a + nat_abs b
sum_size (pos a) (pos b) = omega arith
sum_size (pos a) (negsuc b) = grind arith
sum_size (negsuc a) (pos b) = grind arith
sum_size (negsuc a) (negsuc b) = omega arith

pub cancel : (m : ℕ) (a b : ℤ) → (pos m *ℤ a) <ℤ (pos m *ℤ b) → a <ℤ b
cancel m a b h = by_lt_z a b (λ l. l) (λ l. absurd (omega (arith, ints, mul-le-mul_left m (le_out b a l))))

module _ (p q : ℕ) (h : 0 < q) where
  pub part : (v : ℤ) → Part p q v (floor_of p q v) (rest_of p q v)
  part v = record { is = split (pos p *ℤ v) q h; below = rest_below (pos p *ℤ v) q h }

  pub floor_size : (v : ℤ) → nat_abs (floor_of p q v) ≤ p * nat_abs v
  floor_size v = omega (arith, quotient_size (pos p *ℤ v) q h, unsigned_abs-mul (pos p) v)

  under : (v f g : ℤ) (x y : ℕ) → Part p q v f x → Part p q v g y → f <ℤ (g +ℤ pos 1)
  under v f g x y a b = cancel q f (g +ℤ pos 1) (omega (arith, ints, a.is, b.is, b.below, spread q g (pos 1)))

  -- there is one way to divide
  pub same_floor : (v f g : ℤ) (x y : ℕ) → Part p q v f x → Part p q v g y → f ≡ g
  same_floor v f g x y a b = omega (arith, ints, under v f g x y a b, under v g f y x b a)

  pub same_rest : (v f g : ℤ) (x y : ℕ) → Part p q v f x → Part p q v g y → x ≡ y
  same_rest v f g x y a b = omega (arith, ints, a.is, b.is, ap (λ (z : ℤ). pos q *ℤ z) (same_floor v f g x y a b))
