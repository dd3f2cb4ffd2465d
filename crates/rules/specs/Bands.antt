-- A set of bands by its five figures, and why five figures are no set.
use Rattle.std.specs.Prelude.{◌<◌, ◌≤◌, ◌⊎◌}
use Rattle.kinds.specs.declared.refusals.Refusal.{Refusal}
use Rattle.kinds.specs.declared.refusals.Refusal.TheVariants.{TermOutOfRange, BandOrder}
use Rattle.rules.specs.declared.bands.Bands.{Bands}
use Rattle.rules.specs.declared.bands.parts.BandFigures.{BandFigures}

abbrev pub figures_of : Bands → BandFigures
figures_of b = record {
  lower_allowed = b.lower_allowed;
  lower_cumulable = b.lower_cumulable;
  upper_cumulable = b.upper_cumulable;
  upper_allowed = b.upper_allowed;
  carry_limit = b.carry_limit;
}

abbrev pub zeros : BandFigures
zeros = record { lower_allowed = 0; lower_cumulable = 0; upper_cumulable = 0; upper_allowed = 0; carry_limit = 0 }

-- each figure is within its range
pub record Ranged (f : BandFigures) : Type 0 where
  pub low : f.lower_allowed ≤ 100000000
  pub inner_low : f.lower_cumulable ≤ 100000000
  pub inner_high : f.upper_cumulable ≤ 100000000
  pub high : f.upper_allowed ≤ 100000000
  pub limit : f.carry_limit ≤ 100000000

pub data Misfit (f : BandFigures) : Refusal → Type 0 where
  ranged : (Ranged f → ⊥) → Misfit f TermOutOfRange
  ordered : Ranged f → (f.lower_allowed < f.lower_cumulable) ⊎ (f.upper_allowed < f.upper_cumulable) → Misfit f BandOrder
