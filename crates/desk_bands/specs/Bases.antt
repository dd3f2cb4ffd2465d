-- What the lines on bases and tolerances mean, and what is said to them.
use Rattle.std.specs.Prelude.{◌≡◌, ℕ, ◌<◌, ◌≤◌, List, [], ◌++◌, vec_items, codes, decimal}
use Rattle.kinds.specs.declared.refusals.Refusal.{Refusal}
use Rattle.kinds.specs.declared.refusals.Refusal.TheVariants.{TermOutOfRange}
use Rattle.terms.specs.Base.{Based, Baseless}
use Rattle.terms.specs.Tolerance.{thousandths, Ends}
use Rattle.terms.specs.declared.tolerance.Perimeter.{Perimeter}
use Rattle.terms.specs.declared.tolerance.Perimeter.TheVariants.{NorthB, NorthH, South}
use Rattle.lines.specs.Fields.{NaturalBelow, First, Each}
use Rattle.lines.specs.Dates.{MonthWord}
use Rattle.commands.specs.Refusals.{refused}
use Rattle.commands.specs.Replies.{Said, text}
use Rattle.desk_bands.specs.declared.bases.BaseLine.{BaseLine}
use Rattle.desk_bands.specs.declared.bases.ToleranceLine.{ToleranceLine}

abbrev pub named : Perimeter → List ℕ
named NorthB = codes "north-b"
named NorthH = codes "north-h"
named South = codes "south"

abbrev pub PerimeterWord : List ℕ → Perimeter → Type 0
PerimeterWord w p = w ≡ named p

-- the month, the capacity, the monthly capacity and then the allocations
abbrev pub BaseWords : List (List ℕ) → BaseLine → Type 0
BaseWords ws x = First MonthWord x.month (First (NaturalBelow 32) x.capacity (First (NaturalBelow 32) x.monthly (λ vs. Each (NaturalBelow 32) vs (vec_items x.allocations)))) ws

pub data BaseSaid (x : BaseLine) : Said → Type 0 where
  based : (b : ℕ) → Based x.month x.capacity x.monthly (vec_items x.allocations) b → BaseSaid x (text (codes "base " ++ decimal b))
  denied : (e : Refusal) → Baseless x.month x.capacity x.monthly (vec_items x.allocations) e → BaseSaid x (text (refused e))

-- the perimeter and the base
abbrev pub ToleranceWords : List (List ℕ) → ToleranceLine → Type 0
ToleranceWords ws x = First (λ w p. PerimeterWord w p.0) x.perimeter (First (NaturalBelow 32) x.base (λ vs. vs ≡ [])) ws

-- the thousandths of a kWh, and the bracket in which the base ends
pub data ToleranceSaid (x : ToleranceLine) : Said → Type 0 where
  given : x.base ≤ 100000000 → (n : ℕ) → Ends x.base n → ToleranceSaid x (text (codes "tolerance " ++ (decimal (thousandths x.perimeter.0 x.base) ++ (codes " bracket " ++ decimal n))))
  denied : 100000000 < x.base → ToleranceSaid x (text (refused TermOutOfRange))
