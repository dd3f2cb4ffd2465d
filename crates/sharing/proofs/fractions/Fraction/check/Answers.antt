use Rattle.std.proofs.Common.{ℕ, ◌*◌, ap, inl, inr, arith}
use Rattle.sharing.specs.Limits.{high, apart, wide}
use Rattle.sharing.proofs.fractions.Fraction.check.Goals as goal

pub returns-then-p-gt20000000000 : goal.returns-then-p-gt20000000000
returns-then-p-gt20000000000 c vs few small e = high few small c.if-p-gt20000000000.true

pub returns-then-q-eq0 : goal.returns-then-q-eq0
returns-then-q-eq0 c vs few small e =
    apart few small c.if-p-gt20000000000.false (elim c.then-q-eq0.either [ inl z ↦ inl z | inr w ↦ inr w.1 ])

pub returns-then-p-sum-gt9000000000000000000 : goal.returns-then-p-sum-gt9000000000000000000
returns-then-p-sum-gt9000000000000000000 c vs few small e =
    wide few small c.if-p-gt20000000000.false (omega arith) c.if-q-gt1000000000000.false (omega (arith, ap (λ (n : ℕ). c.args.self.p * n) e))
