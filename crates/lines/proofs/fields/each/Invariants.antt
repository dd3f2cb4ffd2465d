use Rattle.std.proofs.Common.{take, vec_items}
use Rattle.lines.specs.Words.{texts}
use Rattle.lines.specs.Fields.{Each}
use Rattle.lines.proofs.fields.each.Given as goal

abbrev pub invariant-loop-word : goal.invariant-loop-word
invariant-loop-word g l = Each g.T.Field.writes (texts (take l.word-index l.words)) (vec_items l.out)
