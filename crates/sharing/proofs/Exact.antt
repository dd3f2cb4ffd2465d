-- What is refused is not within the limits.
use Rattle.std.proofs.Common.{List, ℤ, inl, inr, arith}
use Rattle.kinds.specs.declared.refusals.Refusal.{Refusal}
use Rattle.sharing.specs.Limits.{Few, Small, Breaks, many, large, high, apart, wide, ExactLimits}
use Rattle.sharing.specs.Amounts.{weights, nothing, beyond, ExactAmounts}

pub exact_limits : ExactLimits
exact_limits p q vs e (many l) h = omega (arith, h.few)
exact_limits p q vs e (large few b) h = omega (arith, b.2, h.small b.0 b.1)
exact_limits p q vs e (high few small l) h = omega (arith, h.top)
exact_limits p q vs e (apart few small l (inl z)) h = omega (arith, h.some)
exact_limits p q vs e (apart few small l (inr z)) h = omega (arith, h.bottom)
exact_limits p q vs e (wide few small l some bottom w) h = omega (arith, h.product)

-- weights that are few and small pass no limit at nothing
harmless : (vs : List ℤ) (e : Refusal) → Few vs → Small vs → Breaks 0 1 vs e → ⊥
harmless vs e f s b = exact_limits 0 1 vs e b (record { few = f; small = s; top = omega arith; some = omega arith; bottom = omega arith; product = omega arith })

pub exact_amounts : ExactAmounts
exact_amounts a ws e (weights f b) h = harmless ws f h.limits.few h.limits.small b
exact_amounts a ws e (nothing few small z n) h = n (h.nothing z)
exact_amounts a ws e (beyond f n b) h = exact_limits _ _ ws f b h.limits
