use Rattle.std.proofs.Common.{ℕ, List, Some, None}
use Rattle.commands.specs.Replies.{Said, unread, Answered, keyed, unkeyed, Chosen, chosen, other}
use Rattle.commands.proofs.topics.answer_chosen.Goals as goal

-- what is said by a choice is said where something must be; else the form is
some : {K S : Type 0} {spelled : K → List ℕ} {Of : K → List (List ℕ) → S → S → Said → Type 0} {form : List ℕ} {ws : List (List ℕ)} {s t : S} {x : Said} → Answered spelled Of ws s t (Some x) → Chosen spelled Of form ws s t x
some (keyed k rest e t x h) = chosen k rest e t x h

none : {K S : Type 0} {spelled : K → List ℕ} {Of : K → List (List ℕ) → S → S → Said → Type 0} {form : List ℕ} {ws : List (List ℕ)} {s t : S} → Answered spelled Of ws s t None → Chosen spelled Of form ws s t (unread form)
none (unkeyed h) = other h

pub returns-in-Some : goal.returns-in-Some
returns-in-Some g c = some (rw c.in-Some.is at c.in_ok-reply.ensures)

pub returns-in-None : goal.returns-in-None
returns-in-None g c = none (rw c.in-None.is at c.in_ok-reply.ensures)
