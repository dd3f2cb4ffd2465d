use Rattle.std.proofs.Common.{map, sym, subst, w64, rules, arith}
use Rattle.std.proofs.lemmas.Int.{to_z-of_z}
use Rattle.commands.specs.Replies.{text}
use Rattle.sharing.specs.Limits.{many}
use Rattle.desk_sharing.specs.Figures.{held_by}
use Rattle.desk_sharing.specs.Sharings.{Shares, given, denied}
use Rattle.desk_sharing.proofs.Telling.{tell}
use Rattle.desk_sharing.proofs.sharings.ShareLineCommandUnit.answer.Goals as goal

pub returns-then-len-gt-MOST_CLAIMS : goal.returns-then-len-gt-MOST_CLAIMS
returns-then-len-gt-MOST_CLAIMS c = denied _ (many (omega (arith, c.if-len-gt-MOST_CLAIMS.true, c.len.ensures)))

pub returns-in-Ok : goal.returns-in-Ok
returns-in-Ok c =
    let h = c.in-Ok.ensures.shared in
    let told = tell c.as_mut_slice-claims.ensures.value c.in_ok-figures.ensures c.as_slice.ensures.value in
    let total = to_z-of_z w64 c.in-Ok.total (search rules) in
    subst (λ t. Shares c.args.self.now (text t)) (sym c.in_ok-format-in-Ok.ensures.ok) (given _ (map held_by c.share.new.claims) (rw told at h.limits) (rw (total, ← told) h.shared))

pub returns : goal.returns
returns c = denied _ (rw (tell c.as_mut_slice-claims.ensures.value c.in_ok-figures.ensures c.as_slice.ensures.value) at c.in-Err.ensures.shared.0)
