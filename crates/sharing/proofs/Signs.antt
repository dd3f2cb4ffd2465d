-- Numbers with the sign of another.
use Rattle.std.proofs.Common.{◌≡◌, zero, suc, List, [], ◌∷◌, map, ℤ, pos, negsuc, ◌+ℤ◌, neg_ℤ, nat_abs, ◌≤ℤ◌, ◌<ℤ◌, sym, refl, ap, ◌∙◌, arith}
use Rattle.std.proofs.lemmas.Int.{ints}
use Rattle.sharing.specs.Sharing.{sum}
use Rattle.sharing.specs.Amounts.{size, signed}

pub signed_nil : (a : ℤ) → signed a (pos 0) ≡ pos 0
signed_nil (pos n) = refl
signed_nil (negsuc n) = refl

pub signed_twice : (a x : ℤ) → signed a (signed a x) ≡ x
signed_twice (pos n) x = refl
signed_twice (negsuc n) x = omega (arith, ints)

pub signed_size : (a : ℤ) → signed a (size a) ≡ a
signed_size (pos n) = refl
signed_size (negsuc n) = refl

pub signed_below : (a x : ℤ) → a <ℤ pos 0 → signed a x ≡ neg_ℤ x
signed_below (pos n) x l = absurd (omega (arith, ints))
signed_below (negsuc n) x l = refl

pub signed_above : (a : ℤ) (xs : List ℤ) → pos 0 ≤ℤ a → map (signed a) xs ≡ xs
signed_above (pos n) [] l = refl
signed_above (pos n) (x ∷ xs) l = ap (λ (ys : List ℤ). x ∷ ys) (signed_above (pos n) xs l)
signed_above (negsuc n) xs l = absurd (omega (arith, ints))

pub unsigned_abs_signed : (a x : ℤ) → nat_abs (signed a x) ≡ nat_abs x
unsigned_abs_signed (pos n) x = refl
unsigned_abs_signed (negsuc n) (pos zero) = refl
unsigned_abs_signed (negsuc n) (pos (suc m)) = refl
unsigned_abs_signed (negsuc n) (negsuc m) = refl

signed_plus : (a x y : ℤ) → signed a (x +ℤ y) ≡ signed a x +ℤ signed a y
signed_plus (pos n) x y = refl
signed_plus (negsuc n) x y = omega (arith, ints)

pub sum_signed : (a : ℤ) (ss : List ℤ) → sum (map (signed a) ss) ≡ signed a (sum ss)
sum_signed a [] = sym (signed_nil a)
sum_signed a (s ∷ ss) = ap (λ (z : ℤ). signed a s +ℤ z) (sum_signed a ss) ∙ sym (signed_plus a s (sum ss))

pub signed_both : (a : ℤ) (ss : List ℤ) → map (signed a) (map (signed a) ss) ≡ ss
signed_both a [] = refl
signed_both a (s ∷ ss) = let e = signed_twice a s in let h = signed_both a ss in cc
