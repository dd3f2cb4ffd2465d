use Rattle.std.proofs.Common.{◌≡◌, ℕ, ◌+◌, ◌*◌, ◌/◌, ◌<◌, ◌≤◌, length, ℤ, pos, ◌+ℤ◌, nat_abs, sym, ap, ◌∙◌, div-le_self, arith, w64, SFits, to_z, of_z}
use Rattle.std.proofs.lemmas.List.{length-map}
use Rattle.std.proofs.lemmas.Int.{ints}
use Rattle.sharing.specs.declared.rows.Row.{Row}
use Rattle.sharing.specs.Sharing.{at}
use Rattle.sharing.specs.Rows.{values, shares, rest_at}
use Rattle.sharing.specs.Steps.{sum_to, total, floors, rests, due_of}
use Rattle.sharing.proofs.Ranks.{due_same, due_none}
use Rattle.sharing.proofs.Within.{floor_within}
use Rattle.sharing.proofs.Dealt.{dealt}
use Rattle.sharing.proofs.dealing.deal.Goals as goal
use Rattle.sharing.proofs.dealing.deal.Goals.{then-lacking-gt0, else-lacking-gt0}

pub hand_out-requires : goal.hand_out-requires
hand_out-requires c = λ k l.
    let n = length-map {A = Row} c.args.rows.now (λ r. r.value) in
    let m = c.divide-floor_sum.auto.rows in
    omega (arith, ap nat_abs (c.divide-floor_sum.ensures.shares k (omega arith)), floor_within _ _ (values c.args.rows.now) c.requires k (omega arith))

pub overflow_cast-result : goal.overflow_cast-result
overflow_cast-result c =
    omega (arith, ints, c.requires.bottom, c.divide-floor_sum.ensures.small.1, div-le_self (2 * c.divide-floor_sum.result.1 + c.args.fraction.q) (2 * c.args.fraction.q))

-- the total that the code finds is the sum of the floors and what is lacking
total_is : (z s : ℤ) (r q k : ℕ) → z ≡ s → nat_abs s ≤ 9000000000000000000 → r ≤ 40000000000000 → q ≤ 1000000000000 → k ≤ 2 * r + q
    → (SFits w64 (to_z w64 (of_z w64 z) +ℤ to_z w64 k)) × (to_z w64 (of_z w64 (to_z w64 (of_z w64 z) +ℤ to_z w64 k)) ≡ s +ℤ pos k)
total_is z s r q k e a b d f = (omega (arith, ints), omega (arith, ints))

total_of : (c : goal.Joined-lacking-gt0) → let k = (2 * c.divide-floor_sum.result.1 + c.args.fraction.q) / (2 * c.args.fraction.q) in
    (SFits w64 (to_z w64 (of_z w64 c.divide-floor_sum.result.0) +ℤ to_z w64 k))
    × (to_z w64 (of_z w64 (to_z w64 (of_z w64 c.divide-floor_sum.result.0) +ℤ to_z w64 k)) ≡ sum_to (length c.args.rows.now) (floors c.args.fraction.p c.args.fraction.q (values c.args.rows.now)) +ℤ pos k)
total_of c =
    let small = c.divide-floor_sum.ensures.small in
    let sum = c.divide-floor_sum.ensures.floor_sum in
    total_is _ _ c.divide-floor_sum.result.1 c.args.fraction.q _ sum (omega (arith, ap nat_abs sum, small.0)) small.1 c.requires.bottom
    (div-le_self (2 * c.divide-floor_sum.result.1 + c.args.fraction.q) (2 * c.args.fraction.q))

pub overflow_add-result : goal.overflow_add-result
overflow_add-result c = (total_of c).0

pub returns : goal.returns
returns c =
    let p = c.args.fraction.p in
    let q = c.args.fraction.q in
    let rs = c.args.rows.now in
    let ms = c.divide-floor_sum.new.rows in
    let zs = c.if-lacking-gt0.rows in
    let vs = values rs in
    let k = (2 * c.divide-floor_sum.result.1 + q) / (2 * q) in
    let n = length-map {A = Row} rs (λ r. r.value) in
    let m = c.divide-floor_sum.auto.rows in
    let both : (length zs ≡ length ms) × (values zs ≡ vs) × ((i : ℕ) → i < length vs → at (shares zs) i ≡ due_of (length ms) (at (shares ms)) (rest_at ms) k i) = elim c.if-lacking-gt0.branch [
      | then-lacking-gt0 w ↦ (
        ap length w.rows-is ∙ w.hand_out.auto.rows,
        ap values w.rows-is ∙ w.hand_out.ensures.values ∙ c.divide-floor_sum.ensures.values,
        λ i l. ap (λ xs. at (shares xs) i) w.rows-is ∙ w.hand_out.ensures.shares i (omega arith),
      )
      | else-lacking-gt0 w ↦ (
        ap length w.rows-is,
        ap values w.rows-is ∙ c.divide-floor_sum.ensures.values,
        λ i l. ap (λ xs. at (shares xs) i) w.rows-is ∙ due_none (length ms) (at (shares ms)) (rest_at ms) k i (omega (arith, w.if-lacking-gt0.false)),
      )
    ] in
    let long : length (shares zs) ≡ length vs = length-map {A = Row} zs (λ r. r.share) ∙ both.0 ∙ m ∙ sym n in
    let lack : k ≡ (2 * total (length vs) (rests p q vs) + q) / (2 * q) = ap (λ (r : ℕ). (2 * r + q) / (2 * q)) (c.divide-floor_sum.ensures.rest_sum ∙ ap (λ (j : ℕ). total j (rests p q vs)) (sym n)) in
    let each : (i : ℕ) → i < length vs → at (shares zs) i ≡ due_of (length vs) (floors p q vs) (rests p q vs) k i = λ i l.
    both.2 i l ∙ ap (λ (j : ℕ). due_of j (at (shares ms)) (rest_at ms) k i) (m ∙ sym n)
    ∙ due_same (length vs) (at (shares ms)) (floors p q vs) (rest_at ms) (rests p q vs) k i l (c.divide-floor_sum.ensures.shares i (omega arith)) (λ j o. c.divide-floor_sum.ensures.rests j (omega arith)) in
    let t = (total_of c).1 ∙ ap (λ (j : ℕ). sum_to j (floors p q vs) +ℤ pos k) (sym n) in
    record { values = both.1; shared = rw t (dealt p q vs (shares zs) k c.requires.some long lack each) }
