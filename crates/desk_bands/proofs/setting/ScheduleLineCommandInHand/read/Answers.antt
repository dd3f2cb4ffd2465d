use Rattle.std.proofs.Common.{w16, SFits, rules}
use Rattle.std.proofs.lemmas.Int.{to_z-of_z}
use Rattle.lines.proofs.Exits.{pass}
use Rattle.desk_bands.proofs.setting.ScheduleLineCommandInHand.read.Goals as goal

pub returns-in_err-month : goal.returns-in_err-month
returns-in_err-month c =
    pass _ _ _ c.from_residual.result c.from_residual.ensures.1 c.in_err-month.ensures
    (λ x h. let t = x.terms in ((t.month, (record { 0 = t.perimeter }, (t.base, (t.optional, (t.threshold, (t.limit, (t.talon, x.forecasts))))))), h))

pub returns : goal.returns
returns c =
    let threshold : SFits w16 c.in_ok-month.threshold = search rules in
    let limit : SFits w16 c.in_ok-month.limit = search rules in
    simp to_z-of_z c.in_ok-month.ensures
