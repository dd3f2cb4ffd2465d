-- The values that words write.
use Rattle.std.specs.Prelude.{◌≡◌, ℕ, ◌^◌, ◌<◌, List, [], ◌∷◌, ℤ, codes, Option, MatchOption, FitsSigned}
use Rattle.std.specs.Int.{Width, w64}
use Rattle.std.specs.Str.Parse.{IsNumeral, digits_value, without_leading_plus, without_leading_sign, signed_digits_value}

-- decimal digits after a plus or none, below a power of two
abbrev pub NaturalBelow : ℕ → List ℕ → ℕ → Type 0
NaturalBelow bits w n = (IsNumeral 10 (without_leading_plus w) × (digits_value 10 (without_leading_plus w) < 2 ^ bits)) × (n ≡ digits_value 10 (without_leading_plus w))

abbrev pub Natural : List ℕ → ℕ → Type 0
Natural = NaturalBelow 64

-- decimal digits after a sign or none, that a signed number of the width holds
abbrev pub NumberWithin : Width → List ℕ → ℤ → Type 0
NumberWithin width w z = (IsNumeral 10 (without_leading_sign w) × FitsSigned width (signed_digits_value 10 w)) × (z ≡ signed_digits_value 10 w)

abbrev pub Number : List ℕ → ℤ → Type 0
Number = NumberWithin w64

-- a value, or a dash where there is none
abbrev pub Missing : {X : Type 0} → (List ℕ → X → Type 0) → List ℕ → Option X → Type 0
Missing R w o = MatchOption o (w ≡ codes "-") (R w)

-- the first word writes x, and the words after it are right
pub record First {X : Type 0} (R : List ℕ → X → Type 0) (x : X) (P : List (List ℕ) → Type 0) (ws : List (List ℕ)) : Type 0 where
  pub word : List ℕ
  pub rest : List (List ℕ)
  pub split : ws ≡ word ∷ rest
  pub writes : R word x
  pub after : P rest

-- each word writes one of the values, in order
abbrev pub Each : {X : Type 0} → (List ℕ → X → Type 0) → List (List ℕ) → List X → Type 0
Each R [] [] = Unit {0}
Each R [] (x ∷ xs) = ⊥
Each R (w ∷ ws) [] = ⊥
Each R (w ∷ ws) (x ∷ xs) = R w x × Each R ws xs
