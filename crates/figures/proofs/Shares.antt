-- The worked figures of sharing, by computing what is due to each claim.
use mathlib.Core.Path.{◌≡◌, refl}
use mathlib.Core.List.{List, [], ◌∷◌}
use Prim.Native.Nat.{ℕ, ◌+◌, ◌*◌, ◌/◌, ◌<◌, ◌≤◌}
use borrow.Author.Count.{below_none, below_more}
use lib.Dec.{lit<, lit≤}
use lib.IntN.{ℤ, pos, negsuc, ◌+ℤ◌, nat_abs}
use lib.ListN.{length}
use Rattle.sharing.specs.Sharing.{at, sizes}
use Rattle.sharing.specs.Steps.{sum_to, total, floors, rests, due_of}
use Rattle.sharing.proofs.Dealt.{dealt}
use Rattle.sharing.proofs.Unique.{one_way}
use Rattle.figures.specs.Worked.{Gives, Positions, Thirds, Halves}

-- what is due to the claim k, and its limit
module _ (p q : ℕ) (vs ss : List ℤ) (lacking : ℕ) where
  abbrev pub Due : ℕ → Type 0
  Due k = (nat_abs (at vs k) ≤ 10000000000) × (at ss k ≡ due_of (length vs) (floors p q vs) (rests p q vs) lacking k)

  gives : length vs ≤ 40 → p ≤ 20000000000 → 0 < q → q ≤ 1000000000000 → p * sizes vs ≤ 9000000000000000000 → length ss ≡ length vs
      → lacking ≡ (2 * total (length vs) (rests p q vs) + q) / (2 * q) → ((k : ℕ) → k < length vs → Due k) → Gives p q vs ss (sum_to (length vs) (floors p q vs) +ℤ pos lacking)
  gives few top some bottom product long lack due =
      let s = dealt p q vs ss lacking some long lack (λ k l. (due k l).1) in
      record {
        limits = record { few = few; small = λ k l. (due k l).0; top = top; some = some; bottom = bottom; product = product };
        shared = s;
        only = λ zs u d. one_way p q vs zs ss u _ some d s;
      }

one : (P : ℕ → Type 0) → P 0 → (k : ℕ) → k < 1 → P k
one P a = below_more P 0 (below_none P) a

two : (P : ℕ → Type 0) → P 0 → P 1 → (k : ℕ) → k < 2 → P k
two P a b = below_more P 1 (one P a) b

three : (P : ℕ → Type 0) → P 0 → P 1 → P 2 → (k : ℕ) → k < 3 → P k
three P a b c = below_more P 2 (two P a b) c

pub positions : Positions
positions = (
  gives 10000 10026 (pos 192 ∷ []) (pos 192 ∷ []) 1 (lit≤ tt) (lit≤ tt) (lit< tt) (lit≤ tt) (lit≤ tt) refl refl (one _ (lit≤ tt, refl)),
  gives 10000 10026 (pos 193 ∷ []) (pos 192 ∷ []) 0 (lit≤ tt) (lit≤ tt) (lit< tt) (lit≤ tt) (lit≤ tt) refl refl (one _ (lit≤ tt, refl)),
)

pub thirds : Thirds
thirds = gives 100 3 (pos 1 ∷ pos 1 ∷ pos 1 ∷ []) (pos 34 ∷ pos 33 ∷ pos 33 ∷ []) 1 (lit≤ tt) (lit≤ tt) (lit< tt) (lit≤ tt) (lit≤ tt) refl refl (three _ (lit≤ tt, refl) (lit≤ tt, refl) (lit≤ tt, refl))

pub halves : Halves
halves = gives 1 2 (negsuc 0 ∷ negsuc 0 ∷ []) (pos 0 ∷ negsuc 0 ∷ []) 1 (lit≤ tt) (lit≤ tt) (lit< tt) (lit≤ tt) (lit≤ tt) refl refl (two _ (lit≤ tt, refl) (lit≤ tt, refl))
