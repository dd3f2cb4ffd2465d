-- The worked figures.
use Rattle.std.specs.Prelude.{◌≡◌, List, [], ◌∷◌, ℕ, ◌*◌, ℤ, pos, negsuc}
use Rattle.sharing.specs.Sharing.{Shared}
use Rattle.sharing.specs.Limits.{Limits}
use Rattle.terms.specs.declared.tolerance.Perimeter.TheVariants.{NorthB, NorthH, South}
use Rattle.rules.specs.Exact.{exactly}
use Rattle.rules.specs.Formulas.{from2008}
use Rattle.terms.specs.Tolerance.{thousandths}

-- the claims vs can be shared at p / q, and this gives the shares ss, t in all, and nothing else
pub record Gives (p q : ℕ) (vs ss : List ℤ) (t : ℤ) : Type 0 where
  pub limits : Limits p q vs
  pub shared : Shared p q vs ss t
  pub only : (zs : List ℤ) (u : ℤ) → Shared p q vs zs u → (zs ≡ ss) × (u ≡ t)

-- 192 and 193 kWh as metered are both 192 kWh at 25°
abbrev pub Positions : Type 0
Positions = Gives 10000 10026 (pos 192 ∷ []) (pos 192 ∷ []) (pos 192) × Gives 10000 10026 (pos 193 ∷ []) (pos 192 ∷ []) (pos 192)

-- a hundred over three equal claims: the unit that is lacking goes to the first
abbrev pub Thirds : Type 0
Thirds = Gives 100 3 (pos 1 ∷ pos 1 ∷ pos 1 ∷ []) (pos 34 ∷ pos 33 ∷ pos 33 ∷ []) (pos 100)

-- half of minus one and minus one: rounded downward both are minus one, and one unit is lacking
abbrev pub Halves : Type 0
Halves = Gives 1 2 (negsuc 0 ∷ negsuc 0 ∷ []) (pos 0 ∷ negsuc 0 ∷ []) (negsuc 0)

-- the standard tolerance of North H at 500,000 kWh is 150,000 kWh; at 50,000,000 that of South is 3,090,000 and that of North B 2,700,000
abbrev pub Tolerances : Type 0
Tolerances = (thousandths NorthH 500000 ≡ 1000 * 150000) × (thousandths South 50000000 ≡ 1000 * 3090000) × (thousandths NorthB 50000000 ≡ 1000 * 2700000)

-- tolerances of 150,000 and 10,000 kWh, a temperature share of one half and a talon of 50 percent
abbrev pub Banding : Type 0
Banding = exactly 150000000 10000000 1 2 50 ≡ record {
  lower_allowed = 154598;
  lower_cumulable = 79792;
  upper_cumulable = 79792;
  upper_allowed = 164572;
  carry_limit = 398962;
}

-- a reference of 2,500 and a hub of 6,000 cents give a buy price of 30,000 mills by the rule of 2008
abbrev pub Buying : Type 0
Buying = (s : ℕ) → (from2008 2500 6000 s).buy ≡ 30000
