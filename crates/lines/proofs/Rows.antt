-- Values read word by word.
use Rattle.std.proofs.Common.{◌≡◌, ℕ, zero, suc, ◌+◌, ◌<◌, ◌≤◌, List, [], ◌∷◌, ◌++◌, length, get_or, take, sym, subst, arith, Bor}
use Rattle.std.proofs.lemmas.List.{map_more, take_all}
use Rattle.lines.specs.Words.{texts}
use Rattle.lines.specs.Fields.{First, Each}

module _ {X : Type 0} {R : List ℕ → X → Type 0} where
  pub begins : {x : X} {P : List (List ℕ) → Type 0} {ws : List (List ℕ)} → First R x P ws → First R x (λ _. Unit {0}) ws
  begins h = record { word = h.word; rest = h.rest; split = h.split; writes = h.writes; after = tt }

  -- us stand after the first word: what is right of them, and of all
  pub next : {x y : X} {P : List (List ℕ) → Type 0} {us ws : List (List ℕ)} → First R x (λ vs. vs ≡ us) ws → First R y P ws → P us
  next {P = P} {us = us} h k = let same : k.rest ≡ us = cc in subst P same k.after

  pub onto : {x : X} {P : List (List ℕ) → Type 0} {us ws : List (List ℕ)} → First R x (λ vs. vs ≡ us) ws → P us → First R x P ws
  onto {P = P} h p = record { word = h.word; rest = h.rest; split = h.split; writes = h.writes; after = subst P (sym h.after) p }

module _ {X : Type 0} (R : List ℕ → X → Type 0) where
  push : (ws : List (List ℕ)) (xs : List X) (w : List ℕ) (x : X) → Each R ws xs → R w x → Each R (ws ++ w ∷ []) (xs ++ x ∷ [])
  push [] [] w x h r = (r, tt)
  push [] (y ∷ xs) w x h r = absurd h
  push (v ∷ ws) [] w x h r = absurd h
  push (v ∷ ws) (y ∷ xs) w x h r = (h.0, push ws xs w x h.1 r)

  module _ (ws : List (Bor (List ℕ))) (xs : List X) (i : ℕ) where
    pub each_more : (d : Bor (List ℕ)) (x : X) → i < length ws → Each R (texts (take i ws)) xs → R (get_or ws i d).now x → Each R (texts (take (i + 1) ws)) (xs ++ x ∷ [])
    each_more d x l h r = rw (map_more (λ w. w.now) ws i d l) (push _ xs _ x h r)

    pub each_all : length ws ≤ i → Each R (texts (take i ws)) xs → Each R (texts ws) xs
    each_all l h = rw (take_all i ws l) at h

  pub each_at : (ws : List (Bor (List ℕ))) (xs : List X) (i : ℕ) (d : Bor (List ℕ)) → i < length ws → Each R (texts ws) xs → (x : X) × R (get_or ws i d).now x
  each_at [] xs i d l h = absurd (omega arith)
  each_at (w ∷ ws) [] i d l h = absurd h
  each_at (w ∷ ws) (x ∷ xs) zero d l h = (x, h.0)
  each_at (w ∷ ws) (x ∷ xs) (suc i) d l h = each_at ws xs i d (omega arith) h.1
