use Rattle.std.proofs.Common.{◌≡◌, ℕ, List, Bor, length, sym, ap, ◌∙◌, arith}
use lib.ListN.{length-map}
use Rattle.std.proofs.lemmas.List.{nil_from_length}
use Rattle.std.proofs.lemmas.Result.{IfOk-weaker}
use Rattle.lines.specs.Words.{before, words, texts}
use Rattle.desk.specs.Replies.{words_of, no_text, no_words, answer}
use Rattle.desk.proofs.replies.answer_line.Goals as goal

-- the words that are read are those of the line
read : {ws vs : List (Bor (List ℕ))} {cut text line : List ℕ} → ws ≡ vs → texts vs ≡ words cut → cut ≡ before 35 text → text ≡ line → texts ws ≡ words_of line
read e f g h = ap texts e ∙ f ∙ ap words (g ∙ ap (before 35) h)

pub returns-in_default-clause-said : goal.returns-in_default-clause-said
returns-in_default-clause-said c = IfOk-weaker c.unread_text.result _ _ (λ s e. rw e (no_text c.in_default.ensures.cases.0)) c.unread_text.ensures

pub returns-in-empty-clause-said : goal.returns-in-empty-clause-said
returns-in-empty-clause-said c =
    let text = c.in-Ok.ensures.cases in
    let same = read c.as_slice.ensures.value c.in_ok-words.ensures c.uncommented-command.ensures text.0 in
    rw c.new.ensures.bytes (no_words text.1 (sym same ∙ ap texts (nil_from_length _ (omega arith))))

pub returns-clause-said : goal.returns-clause-said
returns-clause-said c =
    let text = c.in-Ok.ensures.cases in
    let same = read c.as_slice.ensures.value c.in_ok-words.ensures c.uncommented-command.ensures text.0 in
    let said = rw same at c.in_ok-answer_in_turn-in_default-as_slice.ensures in
    IfOk-weaker c.reply_text.result _ _ (λ s e. rw e (answer text.1 (λ none. omega (arith, simp length-map at (ap length (same ∙ none)))) _ _ said)) c.reply_text.ensures
