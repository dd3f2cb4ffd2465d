-- A text that is cut at a byte: its words, and what stands before that byte.
use Rattle.std.proofs.Common.{◌≡◌, ℕ, ◌+◌, ◌<◌, ◌≤◌, Bool, true, false, eqb, List, [], ◌∷◌, ◌++◌, length, get_or, take, drop, Some, None, Option, sym, refl, ap, ◌∙◌, ⊎_elim, append_assoc, append-nil, arith, take-append-drop, Bor, eq-eqb, ne_eqb, MatchOption}
use borrow.Author.Tests.{clash}
use Rattle.std.specs.Str.Pattern.{FindsBy}
use Rattle.std.specs.Str.{NoCharPasses}
use Rattle.std.specs.List.{AllByRecursion as All}
use Rattle.std.proofs.ByRecursion.{All-from_get_or}
use Rattle.std.proofs.lemmas.Str.Pattern.{drop_at_char}
use Rattle.std.proofs.lemmas.Str.{len_utf8_bounds, NoCharPasses-byte}
use Rattle.std.proofs.str.Laws.{order}
use Rattle.lines.specs.Words.{blank, before, kept, words_after, words}

-- no byte of bs passes t
abbrev pub Free : (ℕ → Bool) → List ℕ → Type 0
Free t bs = All (λ b. t b ≡ false) bs

pub lacking : (c : ℕ) (bs : List ℕ) → ((i : ℕ) → i < length bs → get_or bs i 0 ≡ c → ⊥) → Free (λ b. eqb b c) bs
lacking c bs h = All-from_get_or _ bs 0 (λ i l. ne_eqb _ c (h i l))

pub before_all : (c : ℕ) (xs : List ℕ) → Free (λ b. eqb b c) xs → before c xs ≡ xs
before_all c [] h = refl
before_all c (x ∷ xs) h = rw h.0 (ap (λ l. x ∷ l) (before_all c xs h.1))

pub before_cut : (c : ℕ) (xs ys : List ℕ) → Free (λ b. eqb b c) xs → before c (xs ++ (c ∷ ys)) ≡ xs
before_cut c [] ys h = rw (eq-eqb c c refl) refl
before_cut c (x ∷ xs) ys h = rw h.0 (ap (λ l. x ∷ l) (before_cut c xs ys h.1))

after_all : (w xs : List ℕ) → Free blank xs → words_after w xs ≡ kept (w ++ xs)
after_all w [] h = ap kept (sym (append-nil w))
after_all w (x ∷ xs) h = rw h.0 (after_all (w ++ x ∷ []) xs h.1 ∙ ap kept (append_assoc w (x ∷ []) xs))

after_cut : (w xs ys : List ℕ) (b : ℕ) → Free blank xs → blank b ≡ true → words_after w (xs ++ (b ∷ ys)) ≡ kept (w ++ xs) ++ words ys
after_cut w [] ys b h e = rw e (ap (λ l. kept l ++ words ys) (sym (append-nil w)))
after_cut w (x ∷ xs) ys b h e = rw h.0 (after_cut (w ++ x ∷ []) xs ys b h.1 e ∙ ap (λ l. kept l ++ words ys) (append_assoc w (x ∷ []) xs))

not_blank : (b : ℕ) → 128 ≤ b → blank b ≡ false
not_blank b h = rw (ne_eqb 32 b (λ e. omega arith), ne_eqb 9 b (λ e. omega arith), ne_eqb 13 b (λ e. omega arith)) refl

free : (bs : List ℕ) → NoCharPasses blank bs → Free blank bs
free bs w = All-from_get_or _ bs 0 (λ i l. ⊎_elim (λ low. NoCharPasses-byte blank bs i w l low) (not_blank _) (order (get_or bs i 0) 128))

low : (b : ℕ) → blank b ≡ true → b < 128
low b e = ⊎_elim (λ l. l) (λ h. absurd (clash (sym (not_blank b h) ∙ e))) (order b 128)

words_cut : (bs : List ℕ) (i j : ℕ) → FindsBy blank bs (Some (i, j)) → words bs ≡ kept (take i bs) ++ words (drop j bs)
words_cut bs i j h =
    let at = h.1 in
    let cut : bs ≡ take i bs ++ (at.0 ∷ drop j bs) = sym (take-append-drop i bs) ∙ ap (λ l. take i bs ++ l) (drop_at_char at.0 bs i j at.2 (low at.0 at.1)) in
    ap words cut ∙ after_cut [] (take i bs) (drop j bs) at.0 (free (take i bs) h.0) at.1

-- what `split_once` finds in a text: no blank, or its first one
abbrev pub Found : List ℕ → Option (ℕ × ℕ) → Type 0
Found bs o = (t : ℕ → Bool) → ((b : ℕ) → blank b ≡ t b) → FindsBy t bs o

-- the words of the text by its two parts, of which the second is shorter
pub split_words : (bs : List ℕ) (r : Option (Bor (List ℕ) × Bor (List ℕ)))
    → MatchOption r (Found bs None) (λ x. (i : ℕ) × (j : ℕ) × Found bs (Some (i, j)) × (x.0.now ≡ take i bs) × (x.1.now ≡ drop j bs) × (i ≤ j) × (length x.0.now ≡ i) × (length x.1.now + j ≡ length bs))
    → MatchOption r (words bs ≡ kept bs) (λ x. (words bs ≡ kept x.0.now ++ words x.1.now) × (length x.1.now < length bs))
split_words bs None h = after_all [] bs (free bs (h blank (λ _. refl)))
split_words bs (Some x) h =
    let found = h.2 blank (λ _. refl) in
    (rw (h.3, h.4) (words_cut bs h.0 h.1 found), omega (arith, found.1.2.ends, (len_utf8_bounds found.1.0).0))

-- a turn of the loop: the words so far and those of the rest stay the same
pub turn : (done more ws rest next all : List (List ℕ)) → more ≡ done ++ ws → rest ≡ ws ++ next → done ++ rest ≡ all → more ++ next ≡ all
turn done more ws rest next all p q e = rw (p, append_assoc done ws next, ← q) e
