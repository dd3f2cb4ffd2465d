use Rattle.std.proofs.Common.{◌≡◌, ◌++◌, length, vec_items}
use denote.Text.{Utf8}
use denote.Shadow.{shadow}
use Rattle.lines.specs.Words.{texts, words}
use Rattle.lines.proofs.words.split_words.Given as goal

abbrev pub invariant-loop-word : goal.invariant-loop-word
invariant-loop-word l = shadow (Utf8 l.rest) × (texts (vec_items l.out) ++ words l.rest ≡ words l.text)

abbrev pub decreases-loop-word : goal.decreases-loop-word
decreases-loop-word l = length l.rest
