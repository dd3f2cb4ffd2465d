use Rattle.std.proofs.Common.{◌≡◌, ℕ, List, map, length, ℤ, pos, nat_abs, max, refl, ap, ◌∙◌, arith, w64, SFits, to_z, of_z}
use Rattle.std.proofs.lemmas.List.{length-map}
use Rattle.std.proofs.lemmas.Result.{err_from_is_err_and}
use Rattle.std.proofs.lemmas.Int.{ints, to_z-of_z}
use Rattle.sharing.specs.Sharing.{sizes, Shared}
use Rattle.sharing.specs.Amounts.{size, signed, whole, weights, nothing, beyond}
use Rattle.sharing.specs.Rows.{values, shares}
use Rattle.sharing.proofs.Columns.{as_taken}
use Rattle.sharing.proofs.Amounts.{limits_sized, over_from, low_from, fairly, one_over}
use Rattle.sharing.proofs.Exact.{exact_amounts}
use Rattle.sharing.proofs.shares.share_amount.Goals as goal

pub returns-in_err-rows : goal.returns-in_err-rows
returns-in_err-rows g c =
    let x = err_from_is_err_and c.from_residual.result c.from_residual.ensures.1 in
    record { shared = rw (x.1, x.2) (weights _ (c.in_err-rows.ensures 0 1), refl); exact = exact_amounts; fair = fairly; one_over = one_over }

pub returns-then-amount-ne0 : goal.returns-then-amount-ne0
returns-then-amount-ne0 g c =
    let h = c.in_ok-rows.ensures in
    record {
      shared = (nothing h.0 h.1 (omega (arith, h.2, c.if-sum-eq0.true)) (λ z. omega (arith, ints, c.if-amount-ne0.true)), refl);
      exact = exact_amounts;
      fair = fairly;
      one_over = one_over;
    }

-- the fraction is the size of the amount over the sizes of the weights
part_is : (a : ℤ) (ws : List ℤ) {p q n : ℕ} → SFits w64 a → p ≡ nat_abs (to_z w64 (of_z w64 a)) → q ≡ max 1 n → n ≡ sizes ws → (p ≡ nat_abs a) × (q ≡ whole ws)
part_is a ws fits e f h = (e ∙ ap nat_abs (to_z-of_z w64 a fits), omega arith)

-- what is dealt out is a part of the size of the amount, over the sizes of the weights
shared_as : (a : ℤ) (ws : List ℤ) {p q : ℕ} {vs ss : List ℤ} {t : ℤ} → p ≡ nat_abs a → q ≡ whole ws → vs ≡ map size ws → Shared p q vs ss t → Shared (nat_abs a) (whole ws) (map size ws) ss t
shared_as a ws e f h d = rw (← e, ← f, ← h) d

pub deal-requires : goal.deal-requires
deal-requires g c =
    let ws = map g.C.Claim.told c.args.claims.now in
    let h = c.in_ok-rows.ensures in
    let sized : values c.by_size.new.rows ≡ map size ws = c.by_size.ensures ∙ ap (map size) h.3 in
    rw sized (limits_sized _ _ ws (c.in_ok-check.ensures ws h.0 h.1 h.2))

pub sign_by-requires : goal.sign_by-requires
sign_by-requires g c =
    let ws = map g.C.Claim.told c.args.claims.now in
    let a = c.args.amount in
    let h = c.in_ok-rows.ensures in
    let part = part_is a ws c.ranges.amount c.over-part.ensures.p c.over-part.ensures.q h.2 in
    let n : sizes ws ≡ 0 → a ≡ pos 0 = λ z. omega (arith, ints, h.2, c.else-sum-eq0.either) in
    low_from a ws _ _ n (shared_as a ws part.0 part.1 (c.by_size.ensures ∙ ap (map size) h.3) c.deal.ensures.shared)

pub returns : goal.returns
returns g c =
    let xs = c.args.claims.now in
    let zs = c.give.new.claims in
    let told = g.C.Claim.told in
    let held = g.C.Claim.held in
    let taking = g.C.Claim.taking in
    let met = g.met.C.Claim in
    let ws = map told xs in
    let a = c.args.amount in
    let h = c.in_ok-rows.ensures in
    let n : sizes ws ≡ 0 → a ≡ pos 0 = λ z. omega (arith, ints, h.2, c.else-sum-eq0.either) in
    let part = part_is a ws c.ranges.amount c.over-part.ensures.p c.over-part.ensures.q h.2 in
    let sh = shared_as a ws part.0 part.1 (c.by_size.ensures ∙ ap (map size) h.3) c.deal.ensures.shared in
    let ss = shares c.sign_by.new.rows in
    let same : length zs ≡ length xs = c.give.auto.claims in
    let turned : ss ≡ map (signed a) (shares c.deal.new.rows) = c.sign_by.ensures ∙ ap (λ (z : ℤ). map (signed z) (shares c.deal.new.rows)) (to_z-of_z w64 a c.ranges.amount) in
    let long : length ss ≡ length xs = ap length turned ∙ length-map (shares c.deal.new.rows) (signed a) ∙ sh.long ∙ length-map ws size ∙ length-map xs told in
    let taken = as_taken told held taking met.holds met.tells ss xs zs same long c.give.ensures in
    record {
      shared = record {
        sharable = record { limits = rw (part.0, part.1) at (c.in_ok-check.ensures ws h.0 h.1 h.2); nothing = n };
        over = rw (taken.0 ∙ turned) (over_from a ws (shares c.deal.new.rows) _ n sh);
        taken = taken.1;
      };
      exact = exact_amounts;
      fair = fairly;
      one_over = one_over;
    }

pub returns-in_err-check : goal.returns-in_err-check
returns-in_err-check g c =
    let ws = map g.C.Claim.told c.args.claims.now in
    let h = c.in_ok-rows.ensures in
    let n : sizes ws ≡ 0 → c.args.amount ≡ pos 0 = λ z. omega (arith, ints, h.2, c.else-sum-eq0.either) in
    let part = part_is c.args.amount ws c.ranges.amount c.over-part.ensures.p c.over-part.ensures.q h.2 in
    let e = rw (part.0, part.1) at (c.in_err-check.ensures ws h.0 h.1 h.2) in
    let x = err_from_is_err_and c.from_residual-in_err-check.result c.from_residual-in_err-check.ensures.1 in
    record { shared = rw (x.1, x.2) (beyond _ n e, refl); exact = exact_amounts; fair = fairly; one_over = one_over }
