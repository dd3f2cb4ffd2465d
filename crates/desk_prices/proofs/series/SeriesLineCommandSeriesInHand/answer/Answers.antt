use Rattle.std.proofs.Common.{Some, sym, subst}
use Rattle.commands.specs.Replies.{text}
use Rattle.desk_prices.specs.Series.{SeriesSet, set, denied}
use Rattle.desk_prices.proofs.series.SeriesLineCommandSeriesInHand.answer.Goals as goal

pub returns-in_ok-format-in-Ok : goal.returns-in_ok-format-in-Ok
returns-in_ok-format-in-Ok c =
    subst (λ t. SeriesSet c.args.self.now c.args.hand.now (Some c.in-Ok.given) (text t)) (sym c.in_ok-format-in-Ok.ensures.ok) (set _ (rw c.as_slice.ensures.value at c.in-Ok.ensures))

pub returns-in-Err-Refused : goal.returns-in-Err-Refused
returns-in-Err-Refused c =
    let is = c.in-Err-Refused.field-0-is in
    rw is (denied _ (rw (is, c.as_slice.ensures.value) at c.in-Err-Refused.ensures))
