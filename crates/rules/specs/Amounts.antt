-- What an energy in kWh comes to at a price in mills per MWh: cents, to the nearest, halves upward, on the side of the energy.
use Rattle.std.specs.Prelude.{ℕ, ◌+◌, ◌*◌, ◌<◌, ◌≤◌, ℤ, pos, ◌≤ℤ◌, unsigned_abs}

-- ten thousand times the cents are at most half a cent above the price times the size, and less than half a cent below
pub record Nearest (mills size cents : ℕ) : Type 0 where
  pub above : 2 * 10000 * cents ≤ 2 * mills * size + 10000
  pub below : 2 * mills * size + 10000 < 2 * 10000 * (cents + 1)

pub record Amounts (mills : ℕ) (energy cents : ℤ) : Type 0 where
  pub nearest : Nearest mills (unsigned_abs energy) (unsigned_abs cents)
  pub long : pos 0 ≤ℤ energy → pos 0 ≤ℤ cents
  pub short : energy ≤ℤ pos 0 → cents ≤ℤ pos 0
