-- Why idle links may be asked again.
use Rattle.std.proofs.Common.{◌≡◌, ℕ, Bool, false, IsTrue, List, [], ◌∷◌, ◌++◌, Option, Some, None, refl, sym, ap, ◌∙◌, append_assoc, subst, inl, inr}
use Rattle.std.specs.Prelude.{◌⊎◌, IfSome, is_some}
use Rattle.std.specs.Io.KnownBytes.{append_known}
use Rattle.law_terms.specs.Plain.{PlainTerm}
use Rattle.law_terms.specs.TypeValues.{Enums, AreEnums}
use Rattle.law_scripts.specs.Script.{CheckSat}
use Rattle.law_scripts.proofs.Append.{script_append, whole_append}
use Rattle.law_scripts.proofs.Laid.{plain_lines}
use Rattle.law_lines.proofs.Spelled.{whole_line}
use Rattle.law_lines.specs.Text.{text}
use Rattle.law_theorem.specs.Conditions.{AreConditions}
use Rattle.law_theorem.proofs.FitKept.{conditions_are_their_scripts}
use Rattle.smt_script.specs.CommandTexts.{check_sat_text, reset_text}
use Rattle.smt_solve.specs.Answers.{decision_word}
use Rattle.smt_solve.specs.Link.{IsOver, LinkState}
use Rattle.smt_solve.specs.Question.{Answers}
use Rattle.smt_solve.specs.declared.answer.Decision.{Decision}
use Rattle.smt_solve.specs.declared.answer.Decision.TheVariants.{Unsat}
use Rattle.law_verdicts.specs.HandedOut.{IsLeftOpen}
use Rattle.law_verdicts.specs.Honesty.{IsInTurn}
use Rattle.law_verdicts.specs.Idle.{AnswersQuestion, AskedLinksAreIdleAgain, IdleChecksAreInTurn, IdleLinksAreBelieved, IsIdleLink, IsReset, TellsAll, UnusedLinksAreIdle}
use Rattle.law_verdicts.specs.InHand.{IsBlankLink}
use Rattle.law_verdicts.specs.Verdicts.{IsBlankScript, logic_text, question_of}
use Rattle.law_verdicts.proofs.Believing.{check_runs, logic_is_blank}
use Rattle.law_verdicts.proofs.Broken.{broken_answers_are_last}
use Rattle.law_verdicts.proofs.HandedOut.{blank_append, nothing_sent, reset_leaves_nothing}
use Rattle.law_verdicts.proofs.InHand.{answer_believed, blank_again, in_turn, preambles_keep_blank, these_are_preambles, unused_links_are_blank}

-- ---- what is told

-- what is told with more behind it was told before
told_before : (old new : Option (List ℕ)) (bytes : List ℕ) → new ≡ append_known old bytes → IsTrue (is_some new) → IsTrue (is_some old)
told_before None new bytes e h = subst (λ (o : Option (List ℕ)). IsTrue (is_some o)) e h
told_before (Some x) new bytes e h = refl

-- what is told grows by three pieces in turn
grown : (o : Option (List ℕ)) (x y z : List ℕ) → append_known o (x ++ (y ++ z)) ≡ append_known (append_known (append_known o x) y) z
grown None x y z = refl
grown (Some s) x y z = simp append_assoc

none_blank : (o : Option (List ℕ)) → IfSome o (λ bytes. bytes ≡ []) → IfSome o IsBlankScript
none_blank None h = tt
none_blank (Some x) h = subst IsBlankScript (sym h) nothing_sent

still_spared : (old new : Option Bool) → new ≡ old → IfSome old (λ killed. killed ≡ false) → IfSome new (λ killed. killed ≡ false)
still_spared old new same h = subst (λ (k : Option Bool). IfSome k (λ killed. killed ≡ false)) (sym same) h

pub unused_links_are_idle : UnusedLinksAreIdle
unused_links_are_idle s u = record {
  spared = u.killed;
  sent = none_blank s.sent u.sent;
  answered = λ told. inl (unused_links_are_blank s u told.sent told.was_read);
}

-- ---- the question, step by step

-- a link that was sent the logic, and then the script
abbrev with_logic : LinkState → LinkState
with_logic s = record s { sent = append_known s.sent logic_text }

abbrev with_script : LinkState → List ℕ → LinkState
with_script s script = record s { sent = append_known (append_known s.sent logic_text) script }

logic_keeps_blank : (s : LinkState) → IsBlankLink s → IsBlankLink (with_logic s)
logic_keeps_blank s b = preambles_keep_blank s (with_logic s) logic_text b these_are_preambles.logic (record { sent = refl; same_read = refl })

last_step : (allows : List ℕ → List ℕ → List ℕ → Type 0) (old new : LinkState) (script said : List ℕ) → Answers allows old new (question_of script) said → Answers allows (with_script old script) new check_sat_text said
last_step allows old new script said a = record {
  line = a.line;
  reply = record {
    exchanged = record {
      sent = a.reply.exchanged.sent ∙ grown old.sent logic_text script check_sat_text;
      was_read = a.reply.exchanged.was_read;
      later = a.reply.exchanged.later;
    };
    short = a.reply.short;
    piece = a.reply.piece;
    allowed = a.reply.allowed;
  };
  allowed = a.allowed;
  says = a.says;
  spared = record { same_killed = a.spared.same_killed; end = a.spared.end };
}

is_blank : (s : LinkState) → IsIdleLink s → TellsAll s → (IsOver s → ⊥) → IsBlankLink s
is_blank s i told runs = elim (i.answered told) [ inl b ↦ b | inr over ↦ absurd (runs over) ]

alike : (x y : List ℕ) → Some x ≡ Some y → x ≡ y
alike x y h = cc

in_turn_behind : (enums : Enums) (ts : List PlainTerm) (s : LinkState) → AreConditions enums ts → (b : IsBlankLink s) → IsBlankLink (with_logic s) → IsInTurn (b.sent ++ question_of (text enums ts)) b.answers
in_turn_behind enums ts s c b w =
    let asked = text enums ts ++ check_sat_text in
    let sent : w.sent ≡ b.sent ++ logic_text = alike w.sent (b.sent ++ logic_text) (sym w.tells_sent ∙ ap (λ (o : Option (List ℕ)). append_known o logic_text) b.tells_sent) in
    let read : w.answers ≡ b.answers = alike w.answers b.answers (sym w.tells_read ∙ b.tells_read) in
    subst (λ (x : List ℕ). IsInTurn x b.answers) (ap (λ (x : List ℕ). x ++ asked) sent ∙ append_assoc b.sent logic_text asked)
    (subst (λ (x : List ℕ). IsInTurn (w.sent ++ asked) x) read (in_turn enums ts w.sent w.answers w.blank c w.answered))

pub idle_checks_are_in_turn : IdleChecksAreInTurn
idle_checks_are_in_turn enums ts s c i told runs = let b = is_blank s i told runs in (b, in_turn_behind enums ts s c b (logic_keeps_blank s b))

pub idle_links_are_believed : (allows : List ℕ → List ℕ → List ℕ → Type 0) → IdleLinksAreBelieved allows
idle_links_are_believed allows enums ts before after good c honest i told a =
    answer_believed enums ts allows (with_logic before) (with_script before (text enums ts)) after good c honest (logic_keeps_blank before (is_blank before i told a.went_on))
    (record { sent = refl; same_read = refl }) (last_step allows before after (text enums ts) (decision_word Unsat) a.answer)

-- ---- the next question

-- A question about conditions, sent behind what leaves nothing, is left open.
left_open : (enums : Enums) (ts : List PlainTerm) (sent : List ℕ) → AreEnums enums → AreConditions enums ts → IsBlankScript sent → IsLeftOpen (sent ++ question_of (text enums ts))
left_open enums ts sent good c blank =
    let h = conditions_are_their_scripts enums ts good c in
    let before = blank_append sent logic_text blank logic_is_blank in
    let script = text enums ts in
    let behind = script_append (sent ++ logic_text) script _ h.script.script.commands h.state before.whole before.script h.script.script.holds h.script.script.runs in
    let whole = whole_append (sent ++ logic_text) script before.whole h.script.whole in
    let asks = plain_lines.0 in
    let all : IsLeftOpen (((sent ++ logic_text) ++ script) ++ check_sat_text) = record {
      state = h.state;
      script = record {
        whole = whole_append ((sent ++ logic_text) ++ script) check_sat_text whole (whole_line check_sat_text (CheckSat ∷ []) asks);
        script = script_append ((sent ++ logic_text) ++ script) check_sat_text h.state (CheckSat ∷ []) h.state whole behind asks.holds (check_runs h.state);
        running = h.script.running;
      };
    } in
    subst IsLeftOpen (append_assoc (sent ++ logic_text) script check_sat_text ∙ append_assoc sent logic_text (script ++ check_sat_text)) all

blank_behind : (enums : Enums) (ts : List PlainTerm) (before after idle : Option (List ℕ)) → AreEnums enums → AreConditions enums ts → IfSome before IsBlankScript
    → after ≡ append_known before (question_of (text enums ts)) → idle ≡ append_known after reset_text → IfSome idle IsBlankScript
blank_behind enums ts None after idle good c b e f = subst (λ (o : Option (List ℕ)). IfSome o IsBlankScript) (sym (f ∙ ap (λ (o : Option (List ℕ)). append_known o reset_text) e)) tt
blank_behind enums ts (Some sent) after idle good c b e f =
    subst (λ (o : Option (List ℕ)). IfSome o IsBlankScript) (sym (f ∙ ap (λ (o : Option (List ℕ)). append_known o reset_text) e)) (reset_leaves_nothing (sent ++ question_of (text enums ts)) (left_open enums ts sent good c b))

answered_again : (allows : List ℕ → List ℕ → List ℕ → Type 0) (enums : Enums) (ts : List PlainTerm) (d : Decision) (before after idle : LinkState) → AreEnums enums → AreConditions enums ts
    → IsIdleLink before → AnswersQuestion allows before after (text enums ts) d → IsReset after idle → TellsAll idle → IsBlankLink idle ⊎ IsOver idle
unfolding last_step
answered_again allows enums ts d before after idle good c i a x told =
    let told_sent = told_before after.sent idle.sent reset_text x.exchanged.sent told.sent in
    let told_read = told_before after.was_read idle.was_read [] x.exchanged.was_read told.was_read in
    let told_come = subst (λ (b : Bool). IsTrue b) x.told told.to_come in
    let all : TellsAll before = record {
      sent = told_before before.sent after.sent (question_of (text enums ts)) a.answer.reply.exchanged.sent told_sent;
      was_read = told_before before.was_read after.was_read a.answer.line a.answer.reply.exchanged.was_read told_read;
      to_come = subst (λ (b : Bool). IsTrue b) a.told told_come;
    } in
    let asked = with_script before (text enums ts) in
    let w = logic_keeps_blank before (is_blank before i all a.went_on) in
    let s = last_step allows before after (text enums ts) (decision_word d) a.answer in
    let sent_is : after.sent ≡ Some ((w.sent ++ text enums ts) ++ check_sat_text) =
    s.reply.exchanged.sent ∙ ap (λ (o : Option (List ℕ)). append_known (append_known o (text enums ts)) check_sat_text) w.tells_sent in
    let read_is : after.was_read ≡ Some (w.answers ++ a.answer.line) = s.reply.exchanged.was_read ∙ ap (λ (o : Option (List ℕ)). append_known o a.answer.line) w.tells_read in
    elim (broken_answers_are_last asked after check_sat_text a.answer.line d told_read told_come s.reply.exchanged s.reply.piece s.says) [
      | inl is_line ↦ inl (blank_again enums ts after idle w.sent w.answers a.answer.line w.blank good c w.answered is_line sent_is read_is x.exchanged)
      | inr over ↦ inr (x.over over)
    ]

pub asked_links_are_idle_again : (allows : List ℕ → List ℕ → List ℕ → Type 0) → AskedLinksAreIdleAgain allows
asked_links_are_idle_again allows enums ts d before after idle good c i a x = record {
  spared = still_spared before.killed idle.killed (x.spared.same_killed ∙ a.answer.spared.same_killed) i.spared;
  sent = blank_behind enums ts before.sent after.sent idle.sent good c i.sent a.answer.reply.exchanged.sent x.exchanged.sent;
  answered = λ told. answered_again allows enums ts d before after idle good c i a x told;
}
