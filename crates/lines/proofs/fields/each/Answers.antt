use Rattle.lines.proofs.Exits.{pass}
use Rattle.lines.proofs.Rows.{each_at, each_more}
use Rattle.lines.proofs.fields.each.Goals as goal

pub returns-in_err-read : goal.returns-in_err-read
returns-in_err-read g c =
    pass _ _ _ c.from_residual.result c.from_residual.ensures.1 c.in_err-read.ensures (λ v h. each_at _ c.args.words.now _ c.loop-word.word-index _ c.loop-word-test.true h)

pub loop-word-preserved : goal.loop-word-preserved
loop-word-preserved g c =
    rw c.in_ok-push.ensures.items (each_more _ c.args.words.now _ c.loop-word.word-index _ _ c.loop-word-test.true c.loop-word.invariant c.in_ok-read.ensures)
