-- The prices in mills from the day's reference r, hub h and supplement s in cents.
use Rattle.std.specs.Prelude.{ℕ, ◌*◌, min, max}
use Rattle.rules.specs.declared.prices.parts.PriceFigures.{PriceFigures}

-- P2 is 70 percent of the reference where the pool is long, 130 percent where it is short
abbrev pub from2012 : ℕ → ℕ → PriceFigures
from2012 r s = record { p1 = 10 * r; buy = 7 * r; sell = 13 * r; p3 = 10 * s }

-- as above, but never below half of the hub's price where the pool is long, nor above one and a half of it where it is short
abbrev pub from2008 : ℕ → ℕ → ℕ → PriceFigures
from2008 r h s = record { p1 = 10 * r; buy = max (7 * r) (5 * h); sell = min (13 * r) (15 * h); p3 = 10 * s }
