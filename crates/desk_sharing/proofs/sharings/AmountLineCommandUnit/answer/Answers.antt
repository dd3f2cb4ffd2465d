use Rattle.std.proofs.Common.{sym, subst, w64, rules, arith}
use Rattle.std.proofs.lemmas.Int.{to_z-of_z}
use Rattle.commands.specs.Replies.{text}
use Rattle.sharing.specs.Limits.{many}
use Rattle.sharing.specs.Amounts.{weights}
use Rattle.desk_sharing.specs.Sharings.{Amounts, given, denied}
use Rattle.desk_sharing.proofs.Telling.{tell}
use Rattle.desk_sharing.proofs.sharings.AmountLineCommandUnit.answer.Goals as goal

pub returns-then-len-gt-MOST_CLAIMS : goal.returns-then-len-gt-MOST_CLAIMS
returns-then-len-gt-MOST_CLAIMS c = denied _ (weights _ (many (omega (arith, c.if-len-gt-MOST_CLAIMS.true, c.len.ensures))))

pub returns-in-Ok : goal.returns-in-Ok
returns-in-Ok c =
    let h = c.in-Ok.ensures.shared in
    let told = tell c.as_mut_slice-claims.ensures.value c.in_ok-figures.ensures c.as_slice.ensures.value in
    let a = to_z-of_z w64 c.args.self.now.amount (search rules) in
    subst (λ t. Amounts c.args.self.now (text t)) (sym c.in_ok-format-in-Ok.ensures.ok) (given _ (rw (told, a) at h.sharable) (rw (told, a) at h.over))

pub returns : goal.returns
returns c =
    let told = tell c.as_mut_slice-claims.ensures.value c.in_ok-figures.ensures c.as_slice.ensures.value in
    denied _ (rw (told, to_z-of_z w64 c.args.self.now.amount (search rules)) at c.in-Err.ensures.shared.0)
