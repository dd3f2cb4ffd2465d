use Rattle.std.proofs.Common.{sym, ap, ◌∙◌, arith}
use Rattle.std.proofs.lemmas.Str.Pattern.{split_parts}
use Rattle.std.proofs.lemmas.Option.{MatchOption-at_some, MatchOption-at_none}
use Rattle.lines.specs.Words.{before}
use Rattle.lines.proofs.Cuts.{lacking, before_all, before_cut}
use Rattle.lines.proofs.words.uncommented.Goals as goal

pub returns-in-Some : goal.returns-in-Some
returns-in-Some c =
    let cut = MatchOption-at_some _ _ _ c.in-Some.is (split_parts 35 c.args.line.now c.split_once.result c.split_once.ensures.cases (omega arith)) in
    sym (ap (before 35) cut.0 ∙ before_cut 35 _ _ (lacking 35 _ cut.1))

pub returns-in-None : goal.returns-in-None
returns-in-None c =
    let none = MatchOption-at_none _ _ c.in-None.is (split_parts 35 c.args.line.now c.split_once.result c.split_once.ensures.cases (omega arith)) in
    sym (before_all 35 _ (lacking 35 _ none))
