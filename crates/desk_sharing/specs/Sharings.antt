-- What the lines that share mean, and what is said to them.
use Rattle.std.specs.Prelude.{◌≡◌, ℕ, List, ◌++◌, ℤ, vec_items, codes}
use Rattle.std.specs.Fmt.{signed_decimal}
use Rattle.kinds.specs.declared.refusals.Refusal.{Refusal}
use Rattle.sharing.specs.Sharing.{Shared}
use Rattle.sharing.specs.Limits.{Limits, Breaks}
use Rattle.sharing.specs.Amounts.{Over, Sharable, Unsharable}
use Rattle.lines.specs.Fields.{Natural, Number, First, Each}
use Rattle.commands.specs.Refusals.{refused}
use Rattle.commands.specs.Replies.{Said, text, Replied}
use Rattle.desk_sharing.specs.Figures.{listed}
use Rattle.desk_sharing.specs.declared.sharings.ShareLine.{ShareLine}
use Rattle.desk_sharing.specs.declared.sharings.AmountLine.{AmountLine}
use Rattle.desk_sharing.specs.declared.keywords.Keyword.{Keyword}
use Rattle.desk_sharing.specs.declared.keywords.Keyword.TheVariants.{Share, Amount}

-- P, Q and then the claims
abbrev pub ShareWords : List (List ℕ) → ShareLine → Type 0
ShareWords ws x = First Natural x.fraction.p (First Natural x.fraction.q (λ vs. Each Number vs (vec_items x.claims))) ws

-- the total and the shares by the rule of sharing, or the limit that is passed
pub data Shares (x : ShareLine) : Said → Type 0 where
  given : (t : ℤ) (ss : List ℤ) → Limits x.fraction.p x.fraction.q (vec_items x.claims) → Shared x.fraction.p x.fraction.q (vec_items x.claims) ss t → Shares x (text (codes "total " ++ (signed_decimal t ++ (codes " shares" ++ listed ss))))
  denied : (e : Refusal) → Breaks x.fraction.p x.fraction.q (vec_items x.claims) e → Shares x (text (refused e))

-- the amount and then the weights
abbrev pub AmountWords : List (List ℕ) → AmountLine → Type 0
AmountWords ws x = First Number x.amount (λ vs. Each Number vs (vec_items x.weights)) ws

-- the shares by the rule of an amount over weights, or why there are none
pub data Amounts (x : AmountLine) : Said → Type 0 where
  given : (ss : List ℤ) → Sharable x.amount (vec_items x.weights) → Over x.amount (vec_items x.weights) ss → Amounts x (text (codes "shares" ++ listed ss))
  denied : (e : Refusal) → Unsharable x.amount (vec_items x.weights) e → Amounts x (text (refused e))

abbrev pub spelled : Keyword → List ℕ
spelled Share = codes "share"
spelled Amount = codes "amount"

-- a word spells one keyword at most: a line is no command at all where the words after its keyword are none of that keyword
abbrev pub OneKeyword : Type 0
OneKeyword = (j k : Keyword) → spelled j ≡ spelled k → j ≡ k

abbrev pub form_of : Keyword → List ℕ
form_of Share = codes "share P Q V.."
form_of Amount = codes "amount A W.."

-- what is said to the words after a keyword; there is no state that could change
abbrev pub Of : Keyword → List (List ℕ) → Unit {0} → Unit {0} → Said → Type 0
Of Share ws before after x = Replied ShareWords (λ l _ _ y. Shares l y) (form_of Share) ws before after x
Of Amount ws before after x = Replied AmountWords (λ l _ _ y. Amounts l y) (form_of Amount) ws before after x
