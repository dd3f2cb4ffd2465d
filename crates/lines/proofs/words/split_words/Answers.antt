use Rattle.std.proofs.Common.{◌++◌, vec_items, sym, ap, ◌∙◌, rules}
use Rattle.std.proofs.lemmas.Option.{MatchOption-at_some, MatchOption-at_none}
use Rattle.lines.specs.Words.{texts}
use Rattle.lines.proofs.Cuts.{split_words, turn}
use Rattle.lines.proofs.words.split_words.Goals as goal

pub loop-word-smaller : goal.loop-word-smaller
loop-word-smaller c = (MatchOption-at_some _ _ _ c.in-Some.is (split_words c.loop-word.rest.now c.split_once.result c.split_once.ensures.cases)).1

pub loop-word-preserved : goal.loop-word-preserved
loop-word-preserved c =
    let cut = MatchOption-at_some _ _ _ c.in-Some.is (split_words c.loop-word.rest.now c.split_once.result c.split_once.ensures.cases) in
    (search rules, turn _ _ _ _ _ _ c.in_ok-keep.ensures cut.0 c.loop-word.invariant.1)

pub returns : goal.returns
returns c =
    let all = MatchOption-at_none _ _ c.in_default.is (split_words c.loop-word.rest.now c.split_once.result c.split_once.ensures.cases) in
    c.in_ok-keep-2.ensures ∙ ap (λ l. texts (vec_items c.loop-word.out) ++ l) (sym all) ∙ c.loop-word.invariant.1
