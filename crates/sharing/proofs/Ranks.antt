-- Of n places in a strict order, k have a rank below k.
use Rattle.std.proofs.Common.{◌≡◌, ℕ, zero, suc, ◌-◌, ◌*◌, ◌<◌, ◌≤◌, min, Bool, true, false, cond, eqb, ltb, ◌⊎◌, ℤ, ap, inl, inr, arith}
use Rattle.std.proofs.lemmas.Int.{ints}
use Rattle.std.proofs.lemmas.Bool.{cases_lt}
use Rattle.sharing.specs.Steps.{bit, count, ahead, rank_of, due_of}
use Rattle.sharing.proofs.Sums.{total_le, total_lt, total_same, total_most}

pub bit_most : (b : Bool) → bit b ≤ 1
bit_most b = grind arith

-- a strict order
pub record Strict (b : ℕ → ℕ → Bool) : Type 0 where
  pub never : (i : ℕ) → b i i ≡ false
  pub along : (i j k : ℕ) → b i j ≡ true → b j k ≡ true → b i k ≡ true
  pub other : (i j : ℕ) → ¬ (i ≡ j) → b i j ≡ false → b j i ≡ true

module _ (b : ℕ → ℕ → Bool) (o : Strict b) where
  -- who is behind the newcomer n has at least its rank, and who is not has less
  behind : (n i : ℕ) → b n i ≡ true → count n (λ j. b j n) ≤ count n (λ j. b j i)
  behind n i h = total_le n _ _ (λ k l. grind (arith, o.along k n i))

  before : (n i : ℕ) → i < n → b n i ≡ false → count n (λ j. b j i) < count n (λ j. b j n)
  before n i l h =
      let t : b i n ≡ true = o.other n i (omega arith) h in
      total_lt n _ _ i l (λ k m. grind (arith, o.along k i n)) (grind (arith, o.never i))

  -- the first n, once the newcomer n has its place
  low : (n k i : ℕ) → i < n → k ≤ count n (λ j. b j n)
      → bit (ltb (count (suc n) (λ j. b j i)) k) ≡ bit (ltb (count n (λ j. b j i)) k)
  low n k i l h = grind (arith, behind n i)

  high : (n k i : ℕ) → i < n → count n (λ j. b j n) < k
      → bit (ltb (count (suc n) (λ j. b j i)) k) ≡ bit (ltb (count n (λ j. b j i)) (k - 1))
  high n k i l h = grind (arith, before n i l)

  pub ranks : (n k : ℕ) → count n (λ i. ltb (count n (λ j. b j i)) k) ≡ min k n
  ranks zero k = omega arith
  ranks (suc n) k =
      let most : count n (λ j. b j n) ≤ n * 1 = total_most n 1 _ (λ i l. grind arith) in
      let never = o.never n in
      elim (cases_lt (count n (λ j. b j n)) k) [
        | inl h ↦
            let e = total_same n _ _ (λ i l. high n k i l h) in
            let r = ranks n (k - 1) in grind arith
        | inr h ↦
            let e = total_same n _ _ (λ i l. low n k i l h) in
            let r = ranks n k in grind arith
      ]

-- the test, and what it says
abbrev Ahead : ℕ → ℕ → ℕ → ℕ → Type 0
Ahead x y i j = (y < x) ⊎ ((x ≡ y) × (i < j))

out : (x y i j : ℕ) → cond (ltb y x) true (cond (eqb x y) (ltb i j) false) ≡ true → Ahead x y i j
out x y i j h = grind arith

into : (x y i j : ℕ) → Ahead x y i j → cond (ltb y x) true (cond (eqb x y) (ltb i j) false) ≡ true
into x y i j a = grind arith

pub ahead_out : (r : ℕ → ℕ) (i j : ℕ) → ahead r i j ≡ true → (r j < r i) ⊎ ((r i ≡ r j) × (i < j))
ahead_out r i j h = out (r i) (r j) i j h

pass : (x y z i j k : ℕ) → Ahead x y i j → Ahead y z j k → Ahead x z i k
pass x y z i j k a c = grind arith

pub ahead_strict : (r : ℕ → ℕ) → Strict (ahead r)
ahead_strict r = record {
  never = λ i. grind arith;
  along = λ i j k h l. into (r i) (r k) i k (pass (r i) (r j) (r k) i j k (out (r i) (r j) i j h) (out (r j) (r k) j k l));
  other = λ i j n h. grind arith;
}

-- k of n claims have a rank below k
pub ranked : (r : ℕ → ℕ) (n k : ℕ) → k ≤ n → count n (λ i. ltb (rank_of n r i) k) ≡ k
ranked r n k h = omega (arith, ranks (ahead r) (ahead_strict r) n k)

within : (r : ℕ → ℕ) (k j i : ℕ) → ahead r j i ≡ true → bit (ahead r k j) ≤ bit (ahead r k i)
within r k j i t = grind (arith, (ahead_strict r).along k j i)

-- the lower rank is ahead
pub rank_order : (r : ℕ → ℕ) (n i j : ℕ) → j < n → rank_of n r i < rank_of n r j → ahead r i j ≡ true
rank_order r n i j l h =
    let behind : ahead r j i ≡ true → rank_of n r j ≤ rank_of n r i = λ t. total_le n _ _ (λ k m. within r k j i t) in
    let same : i ≡ j → rank_of n r i ≡ rank_of n r j = ap (rank_of n r) in
    grind (arith, (ahead_strict r).other i j, behind, same)

-- what is due depends on what the places have, and on nothing past them
rank_same : (n : ℕ) (r s : ℕ → ℕ) (i : ℕ) → i < n → ((k : ℕ) → k < n → r k ≡ s k) → rank_of n r i ≡ rank_of n s i
rank_same n r s i l e = total_same n _ _ (λ j m. let a = e i l in let b = e j m in cc)

pub due_same : (n : ℕ) (f h : ℕ → ℤ) (r s : ℕ → ℕ) (lacking i : ℕ) → i < n → f i ≡ h i → ((k : ℕ) → k < n → r k ≡ s k) → due_of n f r lacking i ≡ due_of n h s lacking i
due_same n f h r s lacking i l e d = let a = rank_same n r s i l d in cc

pub due_none : (n : ℕ) (f : ℕ → ℤ) (r : ℕ → ℕ) (lacking i : ℕ) → lacking ≡ 0 → f i ≡ due_of n f r lacking i
due_none n f r lacking i z = grind (arith, ints)
