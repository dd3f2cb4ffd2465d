-- The rule of sharing an amount over weights, when it can be shared, and what every such sharing keeps.
use Rattle.std.specs.Prelude.{◌≡◌, ℕ, ◌≤◌, max, List, map, length, ℤ, pos, negsuc, neg_ℤ, ◌≤ℤ◌, ◌≢◌, unsigned_abs}
use Rattle.kinds.specs.declared.refusals.Refusal.{Refusal}
use Rattle.kinds.specs.declared.refusals.Refusal.TheVariants.{NoWeight}
use Rattle.sharing.specs.Sharing.{at, sum, sizes, Shared}
use Rattle.sharing.specs.Limits.{Few, Small, Limits, Breaks}

abbrev pub size : ℤ → ℤ
size x = pos (unsigned_abs x)

-- x with the sign of a
abbrev pub signed : ℤ → ℤ → ℤ
signed (pos n) x = x
signed (negsuc n) x = neg_ℤ x

-- the divisor: the sum of the sizes; one where all weights are nil, so that the total is nil and no other amount can be shared
abbrev pub whole : List ℤ → ℕ
whole ws = max 1 (sizes ws)

-- the amount a is shared over the weights ws: its size over their sizes, and every share has the sign of the amount
abbrev pub Over : ℤ → List ℤ → List ℤ → Type 0
Over a ws ss = Shared (unsigned_abs a) (whole ws) (map size ws) (map (signed a) ss) (size a)

pub record Sharable (a : ℤ) (ws : List ℤ) : Type 0 where
  pub limits : Limits (unsigned_abs a) (whole ws) ws
  pub nothing : sizes ws ≡ 0 → a ≡ pos 0

-- the weights are tested first, then that there is one where there is an amount, then the rest
pub data Unsharable (a : ℤ) (ws : List ℤ) : Refusal → Type 0 where
  weights : (e : Refusal) → Breaks 0 1 ws e → Unsharable a ws e
  nothing : Few ws → Small ws → sizes ws ≡ 0 → (a ≢ pos 0) → Unsharable a ws NoWeight
  beyond : (e : Refusal) → (sizes ws ≡ 0 → a ≡ pos 0) → Breaks (unsigned_abs a) (whole ws) ws e → Unsharable a ws e

-- no amount both can and cannot be shared
abbrev pub ExactAmounts : Type 0
ExactAmounts = (a : ℤ) (ws : List ℤ) (e : Refusal) → Unsharable a ws e → Sharable a ws → ⊥

-- what every sharing of an amount keeps
pub record Fair (a : ℤ) (ws ss : List ℤ) : Type 0 where
  pub long : length ss ≡ length ws
  pub all : sum ss ≡ a
  pub none : (k : ℕ) → at ws k ≡ pos 0 → at ss k ≡ pos 0
  pub side : (k : ℕ) → pos 0 ≤ℤ signed a (at ss k)
  pub most : unsigned_abs a ≤ sizes ws → (k : ℕ) → unsigned_abs (at ss k) ≤ unsigned_abs (at ws k)

abbrev pub Fairly : Type 0
Fairly = (a : ℤ) (ws ss : List ℤ) → Over a ws ss → Fair a ws ss

-- the rule leaves one list of shares
abbrev pub OneOver : Type 0
OneOver = (a : ℤ) (ws ss zs : List ℤ) → Over a ws ss → Over a ws zs → ss ≡ zs
