-- What a reader of words answers.
use Rattle.std.specs.Prelude.{◌≡◌, ℕ, List, Ok, Err, Result}
use Rattle.std.specs.Borrow.{Bor}
use Rattle.lines.specs.declared.fields.Fault.{Fault}
use Rattle.lines.specs.declared.fields.Fault.TheVariants.{Memory, Unreadable}
use Rattle.lines.specs.Fields.{First}
use Rattle.lines.specs.Words.{texts}

-- a right value, or that no value is right; but where memory failed nothing is said
abbrev pub Reads : {X : Type 0} → (X → Type 0) → Result X Fault → Type 0
Reads P (Ok x) = P x
Reads P (Err Memory) = Unit {0}
Reads {X = X} P (Err Unreadable) = (x : X) → P x → ⊥

-- the value of the first word and the words after it, or that no first word writes a value
abbrev pub Splits : {X : Type 0} → (List ℕ → X → Type 0) → List (List ℕ) → Result (X × Bor (List (Bor (List ℕ)))) Fault → Type 0
Splits R ws (Ok x) = First R x.0 (λ vs. vs ≡ texts x.1.now) ws
Splits R ws (Err e) = Reads (λ x. First R x (λ _. Unit {0}) ws) (Err e)
