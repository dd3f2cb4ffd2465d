-- The words of a line: what blanks part, up to a comment.
use Rattle.std.specs.Prelude.{ℕ, Bool, cond, List, [], ◌∷◌, ◌++◌, map, ◌==◌}
use Rattle.std.specs.Borrow.{Bor}
use Rattle.std.specs.Char.{char_set_contains}

-- a space, a tab or a carriage return
abbrev pub blank : ℕ → Bool
blank b = char_set_contains (32 ∷ 9 ∷ 13 ∷ []) b

-- what stands before the first byte c
abbrev pub before : ℕ → List ℕ → List ℕ
before c [] = []
before c (b ∷ bs) = cond (b == c) [] (b ∷ before c bs)

-- the word w, unless it is empty
abbrev pub kept : List ℕ → List (List ℕ)
kept [] = []
kept (b ∷ bs) = (b ∷ bs) ∷ []

-- the words of w, which has no blank, followed by bs
abbrev pub words_after : List ℕ → List ℕ → List (List ℕ)
words_after w [] = kept w
words_after w (b ∷ bs) = cond (blank b) (kept w ++ words_after [] bs) (words_after (w ++ b ∷ []) bs)

abbrev pub words : List ℕ → List (List ℕ)
words bs = words_after [] bs

-- what the words of the code hold
abbrev pub texts : List (Bor (List ℕ)) → List (List ℕ)
texts ws = map (λ w. w.now) ws
