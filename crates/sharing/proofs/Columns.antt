-- Columns of a table, and claims, as a loop goes over them.
use Rattle.std.proofs.Common.{◌≡◌, ℕ, zero, suc, ◌+◌, ◌<◌, ◌≤◌, List, [], ◌∷◌, map, length, get_or, set, ℤ, pos, sym, refl, ap, ◌∙◌, inl, inr, arith, w64, SFits, to_z, of_z}
use lib.Signed.{mag}
use Rattle.std.proofs.lemmas.List.{ext_get_or, get_or-map, length-map, map-set, get_or-set_same, get_or-set_other}
use Rattle.std.proofs.lemmas.Int.{to_z-of_z}
use Rattle.std.proofs.lemmas.Bool.{cases_lt}
use Rattle.sharing.specs.Sharing.{at, Shared}
use Rattle.sharing.specs.declared.rows.Row.{Row}
use Rattle.sharing.specs.Claims.{Takes, Taken}

abbrev pub nil : Row
nil = record { value = pos 0; share = pos 0; rest = 0 }

-- what the claim at i tells, as a caller sees the number
pub value_at : {X : Type 0} (f : X → ℤ) (xs : List X) (i : ℕ) (x : X) (v : ℤ) → mag v < 9223372036854775808 → v ≡ f x → i < length xs → x ≡ get_or xs i x
    → to_z w64 (of_z w64 v) ≡ at (map f xs) i
value_at f xs i x v fits e l s = to_z-of_z w64 v (record { sfits = fits }) ∙ e ∙ ap f s ∙ sym (get_or-map f xs i x (pos 0) l)

-- of a function that keeps zero, also past the end
pub at_map : (f : ℤ → ℤ) → f (pos 0) ≡ pos 0 → (xs : List ℤ) (k : ℕ) → at (map f xs) k ≡ f (at xs k)
at_map f e [] k = sym e
at_map f e (x ∷ xs) zero = refl
at_map f e (x ∷ xs) (suc k) = at_map f e xs k

-- a row's figure, as the code reads it, is that of the column
pub row_at : (f : Row → ℤ) (rs : List Row) (i : ℕ) (ys : List ℤ) → i < length rs → at (map f rs) i ≡ at ys i → SFits w64 (f (get_or rs i nil)) → to_z w64 (of_z w64 (f (get_or rs i nil))) ≡ at ys i
row_at f rs i ys l e fits = to_z-of_z w64 (f (get_or rs i nil)) fits ∙ sym (get_or-map f rs i nil (pos 0) l) ∙ e

module _ {X Y : Type 0} (f : X → Y) (e : Y) where
  pub column_more : (S : ℕ → Y) (xs : List X) (i : ℕ) (y : X) → i < length xs
      → ((k : ℕ) → k < i → get_or (map f xs) k e ≡ S k) → f y ≡ S i → (k : ℕ) → k < i + 1 → get_or (map f (set xs i y)) k e ≡ S k
  column_more S xs i y l below here k m = elim (cases_lt k i) [
    | inl h ↦ rw map-set (get_or-set_other (map f xs) i k (f y) e (omega arith) ∙ below k h)
    | inr h ↦ let same : k ≡ i = omega arith in rw (map-set, same) (get_or-set_same (map f xs) i (f y) e (rw length-map l) ∙ here)
  ]

  pub column_rest : (S : ℕ → Y) (xs : List X) (i : ℕ) (y : X) → ((k : ℕ) → i ≤ k → get_or (map f xs) k e ≡ S k) → (k : ℕ) → i + 1 ≤ k → get_or (map f (set xs i y)) k e ≡ S k
  column_rest S xs i y rest k m = rw map-set (get_or-set_other (map f xs) i k (f y) e (omega arith) ∙ rest k (omega arith))

  pub column_all : (xs : List X) (ys : List Y) → length xs ≡ length ys → ((k : ℕ) → k < length ys → get_or (map f xs) k e ≡ get_or ys k e) → map f xs ≡ ys
  column_all xs ys l h = ext_get_or e (map f xs) ys (length-map xs f ∙ l) (λ k m. h k (omega (arith, length-map xs f)))

-- some element, where there is a place
any : {X : Type 0} (xs : List X) (k : ℕ) → k < length xs → X
any [] k l = absurd (omega arith)
any (x ∷ xs) k l = x

-- claims that took their shares hold them, tell what they told, and differ in nothing else
module _ {X : Type 0} (told held : X → ℤ) (taking : X → ℤ → X) (holds : (c : X) (s : ℤ) → held (taking c s) ≡ s) (tells : (c : X) (s : ℤ) → told (taking c s) ≡ told c)
    (ss : List ℤ) (xs zs : List X) (same : length zs ≡ length xs) (long : length ss ≡ length xs) (h : Takes taking (at ss) xs zs) where
  at_column : (f : X → ℤ) (k : ℕ) (d : X) → k < length xs → at (map f zs) k ≡ f (taking (get_or xs k d) (at ss k))
  at_column f k d l = get_or-map f zs k d (pos 0) (omega arith) ∙ ap f (h k d l)

  pub takes_held : map held zs ≡ ss
  takes_held = column_all held (pos 0) zs ss (same ∙ sym long) (λ k l.
      let m : k < length xs = omega arith in at_column held k (any xs k m) m ∙ holds _ _)

  pub as_taken : (map held zs ≡ ss) × Taken told held taking xs zs
  as_taken = (
    takes_held,
    record {
      tells = column_all told (pos 0) zs (map told xs) (same ∙ sym (length-map xs told)) (λ k l.
          let m : k < length xs = omega (arith, length-map xs told) in
          let d = any xs k m in
          at_column told k d m ∙ tells _ _ ∙ sym (get_or-map told xs k d (pos 0) m));
      only = λ k d l. h k d l ∙ ap (taking (get_or xs k d)) (sym (ap (λ ys. at ys k) takes_held));
    },
  )

pub shared_same : (p q : ℕ) {vs ws ss zs : List ℤ} {t u : ℤ} → vs ≡ ws → zs ≡ ss → u ≡ t → Shared p q vs ss t → Shared p q ws zs u
shared_same p q e f h d = rw (← e, f, h) d
