-- Why no rule was made.
use Rattle.kinds.specs.declared.refusals.Refusal.{Refusal}
use Rattle.terms.specs.declared.errors.RuleError.{RuleError}
use Rattle.terms.specs.declared.errors.RuleError.TheVariants.{Memory, Refused}

-- the ground of a refusal; where memory failed nothing is said
abbrev pub RefusedOn : (Refusal → Type 0) → RuleError → Type 0
RefusedOn P Memory = Unit {0}
RefusedOn P (Refused e) = P e
