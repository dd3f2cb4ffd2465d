-- The five figures of a day's bands as exact fractions, each rounded down once, at the end.
use Rattle.std.specs.Prelude.{◌≡◌, ℕ, ◌+◌, ◌-◌, ◌*◌, ◌/◌, min, ℤ, pos, ◌-ℤ◌, ◌≤ℤ◌}
use Rattle.rules.specs.declared.bands.parts.BandFigures.{BandFigures}

-- n / d is the temperature share A: (threshold - forecast) / (threshold - limit), kept within 0 to 1
pub record Coldness (forecast threshold limit : ℤ) (n d : ℕ) : Type 0 where
  pub whole : pos d ≡ threshold -ℤ limit
  pub warm : threshold ≤ℤ forecast → n ≡ 0
  pub cold : forecast ≤ℤ limit → n ≡ d
  pub between : forecast ≤ℤ threshold → limit ≤ℤ forecast → pos n ≡ threshold -ℤ forecast

-- the standard tolerance s and the optional tolerance o in thousandths of a kWh, A as n / d, and the talon t in percent;
-- each figure is a numerator over 100260 × d: a thousandth of a kWh over 1.0026 is 10 / 10026 kWh, and t is over 100
module _ (s o n d t : ℕ) where
  abbrev pub over : ℕ
  over = 100260 * d

  -- s + o × (1 - A)
  abbrev pub lower : ℕ
  lower = 100 * (s * d + o * (d - n))

  -- s + o × (1 + A)
  abbrev pub upper : ℕ
  upper = 100 * (s * d + o * (d + n))

  -- u: (s + o) × t
  abbrev pub unit : ℕ
  unit = (s + o) * d * t

  -- the smaller of u and lower allowed
  abbrev pub inner : ℕ
  inner = min unit lower

  abbrev pub exactly : BandFigures
  exactly = record {
    lower_allowed = lower / over;
    lower_cumulable = inner / over;
    upper_cumulable = (2 * unit - inner) / over;
    upper_allowed = upper / over;
    carry_limit = 5 * unit / over;
  }
