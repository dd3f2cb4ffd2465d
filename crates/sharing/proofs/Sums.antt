-- Sums over places.
use Rattle.std.proofs.Common.{◌≡◌, ℕ, zero, suc, ◌+◌, ◌*◌, ◌<◌, ◌≤◌, List, [], ◌∷◌, length, get_or, Bool, ℤ, pos, ◌+ℤ◌, ◌*ℤ◌, nat_abs, ◌≤ℤ◌, ◌<ℤ◌, refl, ap, ◌∙◌, inl, inr, add-one, arith}
use borrow.Author.Differences.{sum_is_lem as split-sum}
use Rattle.std.proofs.lemmas.Int.{ints}
use Rattle.std.proofs.lemmas.List.Sums.{sum_by-cons}
use Rattle.std.proofs.lemmas.Bool.{cases_lt}
use Rattle.sharing.specs.Sharing.{at, sum, sizes}
use Rattle.std.specs.List.{count_by, enumerate_from}
use Rattle.sharing.specs.Steps.{sum_to, total, bit, count}

pub total_le : (n : ℕ) (f h : ℕ → ℕ) → ((k : ℕ) → k < n → f k ≤ h k) → total n f ≤ total n h
total_le zero f h e = omega arith
total_le (suc n) f h e = omega (arith, total_le n f h (λ k l. e k (omega arith)), e n (omega arith))

pub total_lt : (n : ℕ) (f h : ℕ → ℕ) (i : ℕ) → i < n → ((k : ℕ) → k < n → f k ≤ h k) → f i < h i → total n f < total n h
total_lt zero f h i l e s = omega arith
total_lt (suc n) f h i l e s =
    let below : (k : ℕ) → k < n → f k ≤ h k = λ k m. e k (omega arith) in
    grind (arith, total_lt n f h i, total_le n f h below, e n)

pub total_same : (n : ℕ) (f h : ℕ → ℕ) → ((k : ℕ) → k < n → f k ≡ h k) → total n f ≡ total n h
total_same n f h e = omega (arith, total_le n f h (λ k l. omega (arith, e k l)), total_le n h f (λ k l. omega (arith, e k l)))

pub total_most : (n m : ℕ) (f : ℕ → ℕ) → ((k : ℕ) → k < n → f k ≤ m) → total n f ≤ n * m
total_most zero m f e = omega arith
total_most (suc n) m f e = omega (arith, total_most n m f (λ k l. e k (omega arith)), e n (omega arith))

pub total_more : (f : ℕ → ℕ) (i : ℕ) → total (i + 1) f ≡ total i f + f i
total_more f i = rw add-one

pub total_up : (f : ℕ → ℕ) (m n : ℕ) → m ≤ n → total m f ≤ total n f
total_up f m zero l = let e : m ≡ 0 = omega arith in rw e (omega arith)
total_up f m (suc n) l = elim (cases_lt n m) [
  | inl h ↦ let e : m ≡ suc n = omega arith in rw e (omega arith)
  | inr h ↦ omega (arith, total_up f m n h)
]

pub total_at : (f : ℕ → ℕ) (i n : ℕ) → i < n → f i ≤ total n f
total_at f i n l = omega (arith, total_up f (suc i) n l)

pub sum_to_more : (f : ℕ → ℤ) (i : ℕ) → sum_to (i + 1) f ≡ sum_to i f +ℤ f i
sum_to_more f i = rw add-one

pub sum_to_le : (n : ℕ) (f h : ℕ → ℤ) → ((k : ℕ) → k < n → f k ≤ℤ h k) → sum_to n f ≤ℤ sum_to n h
sum_to_le zero f h e = omega (arith, ints)
sum_to_le (suc n) f h e = omega (arith, ints, sum_to_le n f h (λ k l. e k (omega arith)), e n (omega arith))

pub sum_to_lt : (n : ℕ) (f h : ℕ → ℤ) (i : ℕ) → i < n → ((k : ℕ) → k < n → f k ≤ℤ h k) → f i <ℤ h i → sum_to n f <ℤ sum_to n h
sum_to_lt zero f h i l e s = absurd (omega arith)
sum_to_lt (suc n) f h i l e s =
    let below : (k : ℕ) → k < n → f k ≤ℤ h k = λ k m. e k (omega arith) in
    grind (arith, ints, sum_to_lt n f h i, sum_to_le n f h below, e n)

-- a product by a sum
pub spread : (p : ℕ) (a b : ℤ) → pos p *ℤ (a +ℤ b) ≡ pos p *ℤ a +ℤ pos p *ℤ b
spread p a b = omega (arith, ints, ap (λ (x : ℕ). p * x) (split-sum a b))

pub sum_to_scaled : (p n : ℕ) (f : ℕ → ℤ) → sum_to n (λ k. pos p *ℤ f k) ≡ pos p *ℤ sum_to n f
sum_to_scaled p zero f = omega (arith, ints)
sum_to_scaled p (suc n) f = omega (arith, ints, sum_to_scaled p n f, spread p (sum_to n f) (f n))

pub sums_with : (n : ℕ) (s f : ℕ → ℤ) (b : ℕ → ℕ) → ((i : ℕ) → i < n → s i ≡ f i +ℤ pos (b i)) → sum_to n s ≡ sum_to n f +ℤ pos (total n b)
sums_with zero s f b e = refl
sums_with (suc n) s f b e = omega (arith, ints, sums_with n s f b (λ i l. e i (omega arith)), e n (omega arith))

-- a sum from the front
sum_to_front : (n : ℕ) (f : ℕ → ℤ) → sum_to (suc n) f ≡ f 0 +ℤ sum_to n (λ k. f (suc k))
sum_to_front zero f = omega (arith, ints)
sum_to_front (suc n) f = omega (arith, ints, sum_to_front n f)

pub sum_is : (xs : List ℤ) → sum_to (length xs) (at xs) ≡ sum xs
sum_is [] = refl
sum_is (x ∷ xs) = sum_to_front (length xs) (at (x ∷ xs)) ∙ ap (λ (z : ℤ). x +ℤ z) (sum_is xs)

total_front : (n : ℕ) (f : ℕ → ℕ) → total (suc n) f ≡ f 0 + total n (λ k. f (suc k))
total_front zero f = omega arith
total_front (suc n) f = omega (arith, total_front n f)

pub sizes_is : (xs : List ℤ) → total (length xs) (λ k. nat_abs (at xs k)) ≡ sizes xs
sizes_is [] = refl
sizes_is (x ∷ xs) = total_front (length xs) (λ k. nat_abs (at (x ∷ xs) k)) ∙ ap (λ (z : ℕ). nat_abs x + z) (sizes_is xs)

-- how many of a list pass a test that goes by their places too
pub count_is : {X : Type 0} (test : ℕ × X → Bool) (f : ℕ → Bool) (xs : List X) (n : ℕ) → ((k m : ℕ) (d : X) → m ≡ n + k → k < length xs → test (m, get_or xs k d) ≡ f k)
    → count_by test (enumerate_from n xs) ≡ count (length xs) f
count_is test f [] n h = refl
count_is test f (x ∷ xs) n h =
    let e = count_is test (λ k. f (suc k)) xs (n + 1) (λ k m d s l. h (suc k) m d (omega arith) (omega arith)) in
    let first : count_by test (enumerate_from n (x ∷ xs)) ≡ bit (test (n, x)) + count_by test (enumerate_from (n + 1) xs) = sum_by-cons (λ p. bit (test p)) (n, x) (enumerate_from (n + 1) xs) in
    let same : bit (test (n, x)) ≡ bit (f 0) = ap bit (h 0 n x (omega arith) (omega arith)) in
    omega (arith, total_front (length xs) (λ k. bit (f k)), e, first, same)
