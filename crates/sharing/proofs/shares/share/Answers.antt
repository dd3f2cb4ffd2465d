use Rattle.std.proofs.Common.{◌≡◌, map, length, ap, ◌∙◌, w64, rules}
use Rattle.std.proofs.lemmas.List.{length-map}
use Rattle.std.proofs.lemmas.Int.{to_z-of_z}
use Rattle.sharing.specs.Rows.{shares}
use Rattle.sharing.proofs.Columns.{as_taken, shared_same}
use Rattle.sharing.proofs.Exact.{exact_limits}
use Rattle.sharing.proofs.Unique.{one_way}
use Rattle.sharing.proofs.shares.share.Goals as goal

pub returns-in_err-rows : goal.returns-in_err-rows
returns-in_err-rows g c = record { shared = search rules; exact = exact_limits; one_way = one_way }

pub returns-in_err-check : goal.returns-in_err-check
returns-in_err-check g c = record { shared = search rules; exact = exact_limits; one_way = one_way }

pub returns-clause-shared : goal.returns-clause-shared
returns-clause-shared g c =
    let xs = c.args.claims.now in
    let zs = c.give.new.claims in
    let told = g.C.Claim.told in
    let held = g.C.Claim.held in
    let taking = g.C.Claim.taking in
    let met = g.met.C.Claim in
    let h = c.in_ok-rows.ensures in
    let ss = shares c.deal-total.new.rows in
    let same : length zs ≡ length xs = c.give.auto.claims in
    let long : length ss ≡ length xs = c.deal-total.ensures.shared.long ∙ ap length h.3 ∙ length-map xs told in
    let taken = as_taken told held taking met.holds met.tells ss xs zs same long c.give.ensures in
    let total = to_z-of_z w64 c.deal-total.result (search rules) in
    record {
      limits = c.in_ok-check.ensures (map told xs) h.0 h.1 h.2;
      shared = shared_same _ _ h.3 taken.0 total c.deal-total.ensures.shared;
      taken = taken.1;
    }

pub returns-clause-exact : goal.returns-clause-exact
returns-clause-exact g c = exact_limits

pub returns-clause-one_way : goal.returns-clause-one_way
returns-clause-one_way g c = one_way
