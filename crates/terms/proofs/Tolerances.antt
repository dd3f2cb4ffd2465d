-- How large the standard tolerance is.
use Rattle.std.proofs.Common.{◌≡◌, ℕ, ◌*◌, ◌-◌, ◌≤◌, min, arith}
use Rattle.std.specs.List.{zip, sum_by}
use Rattle.terms.specs.declared.tolerance.Perimeter.{Perimeter}
use Rattle.terms.specs.declared.tolerance.Perimeter.TheVariants.{NorthB, NorthH, South}
use Rattle.terms.specs.declared.tolerance.TheConstants.{BRACKETS}
use Rattle.terms.specs.Tolerance.{rates_of, thousandths}

pub standard_most : (p : Perimeter) (base : ℕ) → base ≤ 100000000 → thousandths p base ≤ 10000000000
standard_most NorthB base h = omega arith
standard_most NorthH base h = omega arith
standard_most South base h = omega arith

-- a rate on the part of the base in a bracket
abbrev pub part : ℕ → (ℕ × ℕ) × ℕ → ℕ
part base x = x.1 * (min base x.0.1 - x.0.0)

pub parts : (p : Perimeter) (base : ℕ) → sum_by (part base) (zip BRACKETS (rates_of p)) ≡ thousandths p base
parts NorthB base = omega arith
parts NorthH base = omega arith
parts South base = omega arith
