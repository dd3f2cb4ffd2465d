-- What the exit of a `?` says of a reader.
use Rattle.std.proofs.Common.{◌≡◌, IsErrAnd, Ok, Err, Result, sym, subst}
use Rattle.lines.specs.Readers.{Reads}
use Rattle.lines.specs.declared.fields.Fault.{Fault}
use Rattle.lines.specs.declared.fields.Fault.TheVariants.{Memory, Unreadable}

-- where a right y has a right part x
pub pass : {X Y : Type 0} (P : X → Type 0) (Q : Y → Type 0) (e : Fault) (r : Result Y Fault) → IsErrAnd r (λ d. d ≡ e) → Reads P (Err e) → ((y : Y) → Q y → (x : X) × P x) → Reads Q r
pass P Q e (Ok y) h f part = absurd h
pass P Q e (Err Memory) h f part = tt
pass P Q e (Err Unreadable) h f part = λ y q. let g : Reads P (Err Unreadable) = subst (λ d. Reads P (Err d)) (sym h) f in g (part y q).0 (part y q).1
