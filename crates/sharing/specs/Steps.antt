-- How the shares are found: floors, remainders, their sums, and the rank of a claim among them.
use Rattle.std.specs.Prelude.{ℕ, zero, suc, ◌+◌, Bool, true, false, cond, List, ℤ, pos, ◌+ℤ◌, ◌*ℤ◌, ◌==◌, nat_lt, unsigned_abs}
use Rattle.std.specs.Int.{int_div_euclid, int_rem_euclid}
use Rattle.sharing.specs.Sharing.{at}

-- f 0 + .. + f (n - 1), of whole numbers and of naturals
abbrev pub sum_to : ℕ → (ℕ → ℤ) → ℤ
sum_to zero f = pos 0
sum_to (suc n) f = sum_to n f +ℤ f n

abbrev pub total : ℕ → (ℕ → ℕ) → ℕ
total zero f = 0
total (suc n) f = total n f + f n

-- p × v / q rounded downward, and what that leaves of p × v
abbrev pub floor_of : ℕ → ℕ → ℤ → ℤ
floor_of p q v = int_div_euclid (pos p *ℤ v) (pos q)

abbrev pub rest_of : ℕ → ℕ → ℤ → ℕ
rest_of p q v = unsigned_abs (int_rem_euclid (pos p *ℤ v) (pos q))

-- the same of the claim k
abbrev pub floors : ℕ → ℕ → List ℤ → ℕ → ℤ
floors p q vs k = floor_of p q (at vs k)

abbrev pub rests : ℕ → ℕ → List ℤ → ℕ → ℕ
rests p q vs k = rest_of p q (at vs k)

-- the place i comes before the place j: its remainder is the larger, or the same and i the lower
abbrev pub ahead : (ℕ → ℕ) → ℕ → ℕ → Bool
ahead r i j = cond (nat_lt (r j) (r i)) true (cond (r i == r j) (nat_lt i j) false)

abbrev pub bit : Bool → ℕ
bit b = cond b 1 0

-- how many of the first n pass
abbrev pub count : ℕ → (ℕ → Bool) → ℕ
count n f = total n (λ k. bit (f k))

-- how many of n places come before the place i
abbrev pub rank_of : ℕ → (ℕ → ℕ) → ℕ → ℕ
rank_of n r i = count n (λ j. ahead r j i)

-- what the place i is due of n, where so many units are lacking
abbrev pub due_of : ℕ → (ℕ → ℤ) → (ℕ → ℕ) → ℕ → ℕ → ℤ
due_of n f r lacking i = f i +ℤ pos (bit (nat_lt (rank_of n r i) lacking))
