-- What the desk answers to each line.
use Rattle.std.specs.Prelude.{◌≡◌, ℕ, List, [], ◌++◌, Some, None, codes, decimal, IsUtf8, ◌≢◌, Option}
use Rattle.lines.specs.Words.{before, words}
use Rattle.commands.specs.Replies.{Said, text, unread}
use Rattle.desk.specs.Turns.{InTurn}
use Rattle.desk.specs.declared.hand.Hand.{Hand}

-- the words of a line, up to a comment
abbrev pub words_of : List ℕ → List (List ℕ)
words_of line = words (before 35 line)

-- a line that cannot be read, by its number, and what was expected of it
abbrev pub unreadable : ℕ → List ℕ → List ℕ
unreadable n form = codes "UNREADABLE " ++ (decimal n ++ (codes " expected " ++ form))

-- what is printed for what is said to line n; where nothing is said, a keyword was expected
abbrev pub printed : ℕ → Option Said → List ℕ
printed n (Some (text t)) = t
printed n (Some (unread form)) = unreadable n form
printed n None = unreadable n (codes "share, amount, base, tolerance, bands, reference, hub, supplement, prices or ask")

-- the answer to line n, and the hand then: none where it has no words, else what is said to its words; or it is no text
pub data Responds (n : ℕ) (line : List ℕ) (before : Hand) : Hand → List ℕ → Type 0 where
  no_text : (IsUtf8 line → ⊥) → Responds n line before before (unreadable n (codes "a line of text"))
  no_words : IsUtf8 line → words_of line ≡ [] → Responds n line before before []
  answer : IsUtf8 line → words_of line ≢ [] → (after : Hand) (y : Option Said) → InTurn (words_of line) before after y → Responds n line before after (printed n y)
