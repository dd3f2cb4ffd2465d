-- What is said to a line of words.
use Rattle.std.specs.Prelude.{ℕ, List, Some, None, string_bytes, Option}
use Rattle.commands.specs.Keys.{Keyed, Unkeyed}
use Rattle.commands.specs.Refusals.{refused}
use Rattle.commands.specs.declared.replies.Reply.{Reply}
use Rattle.commands.specs.declared.replies.Reply.TheVariants.{Text, Refused, Unreadable}

-- a text, or what was expected of a line that cannot be read
pub data Said : Type 0 where
  text : List ℕ → Said
  unread : List ℕ → Said

abbrev pub said : Reply → Said
said (Text s) = text (string_bytes s)
said (Refused r) = text (refused r)
said (Unreadable u) = unread u.now

-- the command that the words mean is carried out; where they mean none the state stays, and the form of the line is told
pub data Replied {C S : Type 0} (means : List (List ℕ) → C → Type 0) (does : C → S → S → Said → Type 0) (form : List ℕ) (ws : List (List ℕ)) (before : S) : S → Said → Type 0 where
  done : (c : C) → means ws c → (after : S) (x : Said) → does c before after x → Replied means does form ws before after x
  unmeant : ((c : C) → means ws c → ⊥) → Replied means does form ws before before (unread form)

-- the first word makes a choice, and the words after it are answered by it; or it makes none, and nothing is said
pub data Answered {K S : Type 0} (spelled : K → List ℕ) (Of : K → List (List ℕ) → S → S → Said → Type 0) (ws : List (List ℕ)) (before : S) : S → Option Said → Type 0 where
  keyed : (k : K) (rest : List (List ℕ)) → Keyed spelled k rest ws → (after : S) (x : Said) → Of k rest before after x → Answered spelled Of ws before after (Some x)
  unkeyed : Unkeyed spelled ws → Answered spelled Of ws before before None

-- the same where something must be said: a form that the words lack
pub data Chosen {K S : Type 0} (spelled : K → List ℕ) (Of : K → List (List ℕ) → S → S → Said → Type 0) (form : List ℕ) (ws : List (List ℕ)) (before : S) : S → Said → Type 0 where
  chosen : (k : K) (rest : List (List ℕ)) → Keyed spelled k rest ws → (after : S) (x : Said) → Of k rest before after x → Chosen spelled Of form ws before after x
  other : Unkeyed spelled ws → Chosen spelled Of form ws before before (unread form)
