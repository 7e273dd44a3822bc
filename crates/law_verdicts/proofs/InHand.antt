-- What `unsat` says to who holds a session.
use Rattle.std.proofs.Common.{◌≡◌, ℕ, List, [], ◌∷◌, ◌++◌, Option, Some, Result, Ok, Err, refl, sym, ap, ◌∙◌, append_assoc, subst, codes, inl, inr}
use Rattle.std.proofs.lemmas.Bool.{not-true}
use Rattle.std.proofs.lemmas.List.{append-nil}
use Rattle.std.specs.Prelude.{IsTrue, is_some}
use Rattle.std.specs.Io.KnownBytes.{append_known}
use Rattle.law_terms.specs.Plain.{PlainTerm}
use Rattle.law_terms.specs.TypeValues.{Enums, AreEnums}
use Rattle.law_scripts.specs.Script.{Command, DeclareDatatype, DeclareConst, DefineFun, Assert, DeclareFun, SetLogic, SetOption, CheckSat, GetModel, Reset, Exit, Push, Pop, Holds, name, start}
use Rattle.law_scripts.proofs.Append.{holds_append, runs_then, whole_append}
use Rattle.law_scripts.proofs.Laid.{plain_lines, set_logic_line, set_option_line}
use Rattle.law_scripts.proofs.Lines.{names_write}
use Rattle.law_scripts.specs.Written.{IsLine}
use Rattle.law_scripts.proofs.Commands.{one_list_of_commands}
use Rattle.law_lines.specs.Command.{commands}
use Rattle.law_lines.specs.Line.{spelled_lines}
use Rattle.law_lines.specs.Text.{names, text}
use Rattle.law_lines.proofs.Spelled.{lines_hold, whole_line}
use Rattle.law_theorem.specs.Conditions.{AreConditions}
use Rattle.law_theorem.proofs.FitKept.{conditions_are_their_scripts}
use Rattle.smt_script.specs.CommandTexts.{check_sat_text, reset_text}
use Rattle.smt_solve.specs.Answers.{decision_word}
use Rattle.smt_solve.specs.Link.{IsAllowed, IsLine as IsWholeLine, LinkState}
use Rattle.smt_solve.specs.Model.{AsksWithModel, IsDecidedAs}
use Rattle.smt_solve.specs.Question.{Answers, AsksDecision, Exchanges}
use Rattle.smt_solve.specs.Session.{enable_models_text}
use Rattle.smt_solve.specs.declared.answer.Decision.{Decision}
use Rattle.smt_solve.specs.declared.answer.Decision.TheVariants.{Sat, Unsat, Unknown}
use Rattle.smt_solve.specs.declared.answer.DecisionWithModel.TheVariants.{Unsat as UnsatWith}
use Rattle.smt_solve.specs.declared.error.SolverError.{SolverError}
use Rattle.law_verdicts.specs.Honesty.{AreAnswersTo, IsHonest, IsInTurn, IsTrueOf}
use Rattle.law_verdicts.specs.InHand.{AreNeverTrue, AskedLinksAreBlankAgain, HonestyIsHandedOn, IsBlankLink, PreamblesKeepBlank, SessionsAreBelieved, SessionsWithModelsAreBelieved, Takes, TheseArePreambles, UnusedLinksAreBlank}
use Rattle.law_verdicts.specs.Verdicts.{IsBlankScript, logic_text}
use Rattle.law_verdicts.proofs.Asking.{lines_for, lines_held, none_asked, text_is}
use Rattle.law_verdicts.proofs.Believing.{check_runs, logic_is_blank, unsat_is_believed}
use Rattle.law_verdicts.proofs.Broken.{broken_answers_are_last, told_none}
use Rattle.law_verdicts.proofs.HandedOut.{reset_empties}

-- The answers to commands and to those behind them follow one another.
pub answers_go_on : (cs ds : List Command) (bytes more : List ℕ) → AreAnswersTo cs bytes → AreAnswersTo ds more → AreAnswersTo (cs ++ ds) (bytes ++ more)
answers_go_on [] ds bytes more a b = subst (λ (x : List ℕ). AreAnswersTo ds (x ++ more)) (sym a) b
answers_go_on (CheckSat ∷ cs) ds bytes more a b = (a.0, a.1 ++ more, ap (λ (x : List ℕ). x ++ more) a.2 ∙ append_assoc a.0 a.1 more, a.3, answers_go_on cs ds a.1 more a.4 b)
answers_go_on (GetModel ∷ cs) ds bytes more a b = (a.0, a.1 ++ more, ap (λ (x : List ℕ). x ++ more) a.2 ∙ append_assoc a.0 a.1 more, a.3, answers_go_on cs ds a.1 more a.4 b)
answers_go_on (DeclareDatatype d ps ks ∷ cs) ds bytes more a b = answers_go_on cs ds bytes more a b
answers_go_on (DeclareConst c sort ∷ cs) ds bytes more a b = answers_go_on cs ds bytes more a b
answers_go_on (DefineFun f sort body ∷ cs) ds bytes more a b = answers_go_on cs ds bytes more a b
answers_go_on (Assert e ∷ cs) ds bytes more a b = answers_go_on cs ds bytes more a b
answers_go_on (DeclareFun f argument sort ∷ cs) ds bytes more a b = answers_go_on cs ds bytes more a b
answers_go_on (SetLogic l ∷ cs) ds bytes more a b = answers_go_on cs ds bytes more a b
answers_go_on (SetOption o v ∷ cs) ds bytes more a b = answers_go_on cs ds bytes more a b
answers_go_on (Reset ∷ cs) ds bytes more a b = answers_go_on cs ds bytes more a b
answers_go_on (Exit ∷ cs) ds bytes more a b = answers_go_on cs ds bytes more a b
answers_go_on (Push ∷ cs) ds bytes more a b = answers_go_on cs ds bytes more a b
answers_go_on (Pop ∷ cs) ds bytes more a b = answers_go_on cs ds bytes more a b

-- and where nothing behind them is asked, they stay
answers_stay : (cs ds : List Command) (bytes : List ℕ) → AreAnswersTo cs bytes → AreAnswersTo ds [] → AreAnswersTo (cs ++ ds) bytes
answers_stay cs ds bytes a b = subst (AreAnswersTo (cs ++ ds)) (append-nil bytes) (answers_go_on cs ds bytes [] a b)

-- ---- blank links

-- These leave nothing, and state their commands where it can be seen that they ask nothing.
abbrev nothing_blank : IsBlankScript []
nothing_blank = record { whole = tt; script = record { commands = []; holds = (lines_hold [] refl).0; runs = refl } }

pub unused_links_are_blank : UnusedLinksAreBlank
unused_links_are_blank s unused told_sent told_read = record {
  sent = [];
  tells_sent = told_none s.sent told_sent unused.sent;
  answers = [];
  tells_read = told_none s.was_read told_read unused.was_read;
  blank = nothing_blank;
  answered = refl;
}

models_line : IsLine enable_models_text (SetOption (codes "produce-models") (name (codes "true")) ∷ [])
models_line = set_option_line (codes "produce-models") (codes "true") (name (codes "true")) refl (names_write (codes "true") refl)

abbrev models_are_blank : IsBlankScript enable_models_text
models_are_blank = record {
  whole = whole_line enable_models_text (SetOption (codes "produce-models") (name (codes "true")) ∷ []) models_line;
  script = record { commands = SetOption (codes "produce-models") (name (codes "true")) ∷ []; holds = models_line.holds; runs = refl };
}

abbrev logic_is_blank_here : IsBlankScript logic_text
logic_is_blank_here = record { whole = logic_is_blank.whole; script = record { commands = SetLogic (codes "ALL") ∷ []; holds = (set_logic_line (codes "ALL") refl).holds; runs = refl } }

pub these_are_preambles : TheseArePreambles
these_are_preambles = record {
  logic = record { blank = logic_is_blank_here; silent = refl };
  models = record { blank = models_are_blank; silent = refl };
}

pub preambles_keep_blank : PreamblesKeepBlank
preambles_keep_blank old new lines b p t = record {
  sent = b.sent ++ lines;
  tells_sent = t.sent ∙ ap (λ (o : Option (List ℕ)). append_known o lines) b.tells_sent;
  answers = b.answers;
  tells_read = t.same_read ∙ b.tells_read;
  blank = record {
    whole = whole_append b.sent lines b.blank.whole p.blank.whole;
    script = record {
      commands = b.blank.script.commands ++ p.blank.script.commands;
      holds = holds_append b.sent lines b.blank.script.commands p.blank.script.commands b.blank.whole b.blank.script.holds p.blank.script.holds;
      runs = runs_then b.blank.script.commands p.blank.script.commands start start start b.blank.script.runs p.blank.script.runs;
    };
  };
  answered = answers_stay b.blank.script.commands p.blank.script.commands b.answers b.answered p.silent;
}

pub honesty_is_handed_on : (first second : List ℕ → List ℕ → List ℕ → Type 0) → HonestyIsHandedOn first second
honesty_is_handed_on first second only honest sent was_read line allowed = honest sent was_read line (only sent was_read line allowed)

-- ---- `unsat`

-- The question behind the text of conditions is in turn, whatever was asked before what leaves nothing.
pub in_turn : (enums : Enums) (ts : List PlainTerm) (sent answers : List ℕ) (blank : IsBlankScript sent) → AreConditions enums ts → AreAnswersTo blank.script.commands answers → IsInTurn (sent ++ (text enums ts ++ check_sat_text)) answers
in_turn enums ts sent answers blank c a =
    let ls = lines_for enums ts in
    let held = lines_held enums ts c in
    record {
      before = sent ++ spelled_lines ls;
      asked = ap (λ (t : List ℕ). sent ++ (t ++ check_sat_text)) (text_is enums ts) ∙ sym (append_assoc sent (spelled_lines ls) check_sat_text);
      whole = whole_append sent (spelled_lines ls) blank.whole held.1;
      commands = blank.script.commands ++ commands ls;
      holds = holds_append sent (spelled_lines ls) blank.script.commands (commands ls) blank.whole blank.script.holds held.0;
      answered = answers_stay blank.script.commands (commands ls) answers a (none_asked ls);
    }

-- what a line is that is allowed behind what is told to have been sent and read
told_line : (allows : List ℕ → List ℕ → List ℕ → Type 0) (sent was_read : Option (List ℕ)) (bytes answers line : List ℕ) → sent ≡ Some bytes → was_read ≡ Some answers → IsAllowed allows sent was_read line → allows bytes answers line
told_line allows sent was_read bytes answers line e f h =
    subst (λ (o : Option (List ℕ)). IsAllowed allows (Some bytes) o line) f (subst (λ (o : Option (List ℕ)). IsAllowed allows o was_read line) e h)

pub answer_believed : (enums : Enums) (ts : List PlainTerm) (allows : List ℕ → List ℕ → List ℕ → Type 0) (before asked after : LinkState) → AreEnums enums → AreConditions enums ts
    → IsHonest allows → IsBlankLink before → Takes before asked (text enums ts) → Answers allows asked after check_sat_text (decision_word Unsat) → AreNeverTrue enums ts
answer_believed enums ts allows before asked after good c honest b t a =
    let script = text enums ts in
    let sent_is : after.sent ≡ Some ((b.sent ++ script) ++ check_sat_text) =
    a.reply.exchanged.sent ∙ ap (λ (o : Option (List ℕ)). append_known o check_sat_text) (t.sent ∙ ap (λ (o : Option (List ℕ)). append_known o script) b.tells_sent) in
    let allowed = told_line allows after.sent asked.was_read ((b.sent ++ script) ++ check_sat_text) b.answers a.line sent_is (t.same_read ∙ b.tells_read) a.allowed in
    let truly : IsTrueOf (b.sent ++ (script ++ check_sat_text)) b.answers a.line =
    subst (λ (x : List ℕ). IsTrueOf x b.answers a.line) (append_assoc b.sent script check_sat_text) (honest ((b.sent ++ script) ++ check_sat_text) b.answers a.line allowed) in
    unsat_is_believed enums (names enums ts) ts b.sent script b.answers a.line b.blank (conditions_are_their_scripts enums ts good c) (in_turn enums ts b.sent b.answers b.blank c b.answered) truly a.says

pub sessions_are_believed : (allows : List ℕ → List ℕ → List ℕ → Type 0) → SessionsAreBelieved allows
sessions_are_believed allows enums ts before asked after good c honest b t asks = answer_believed enums ts allows before asked after good c honest b t asks.ok

-- behind `unsat` no model is asked for
unsat_alone : (allows : List ℕ → List ℕ → List ℕ → Type 0) (old new : LinkState) (decided : Result Decision SolverError) → AsksDecision allows old new decided → IsDecidedAs decided (Ok UnsatWith) → AsksDecision allows old new (Ok Unsat)
unsat_alone allows old new (Ok Sat) asks h = absurd h
unsat_alone allows old new (Ok Unsat) asks h = asks
unsat_alone allows old new (Ok Unknown) asks h = absurd (cc)
unsat_alone allows old new (Err e) asks h = absurd (cc)

unsat_decided : (allows : List ℕ → List ℕ → List ℕ → Type 0) (old new : LinkState) → AsksWithModel allows old new (Ok UnsatWith) → AsksDecision allows old new (Ok Unsat)
unsat_decided allows old new (inl asks) = unsat_alone allows old new asks.0 asks.1 asks.2
unsat_decided allows old new (inr asks) = absurd asks.2.gives

pub sessions_with_models_are_believed : (allows : List ℕ → List ℕ → List ℕ → Type 0) → SessionsWithModelsAreBelieved allows
sessions_with_models_are_believed allows enums ts before asked after good c honest b t asks =
    sessions_are_believed allows enums ts before asked after good c honest b t (unsat_decided allows asked after asks)

-- ---- the next holder

pub blank_again : (enums : Enums) (ts : List PlainTerm) (after idle : LinkState) (sent answers line : List ℕ) (blank : IsBlankScript sent) → AreEnums enums → AreConditions enums ts → AreAnswersTo blank.script.commands answers → IsWholeLine line
    → after.sent ≡ Some ((sent ++ text enums ts) ++ check_sat_text) → after.was_read ≡ Some (answers ++ line) → Exchanges after idle reset_text [] → IsBlankLink idle
blank_again enums ts after idle sent answers line blank good c a is_line e f x =
    let script = text enums ts in
    let h = (conditions_are_their_scripts enums ts good c).script in
    let state = (conditions_are_their_scripts enums ts good c).state in
    let cs = blank.script.commands in
    let ks = h.script.commands in
    let held : Holds script (commands (lines_for enums ts)) = subst (λ (t : List ℕ). Holds t (commands (lines_for enums ts))) (sym (text_is enums ts)) (lines_held enums ts c).0 in
    let silent = subst (λ (ds : List Command). AreAnswersTo ds []) (one_list_of_commands script (commands (lines_for enums ts)) ks held h.script.holds) (none_asked (lines_for enums ts)) in
    let behind = whole_append sent script blank.whole h.whole in
    let asked = whole_append (sent ++ script) check_sat_text behind (whole_line check_sat_text (CheckSat ∷ []) plain_lines.0) in
    record {
      sent = ((sent ++ script) ++ check_sat_text) ++ reset_text;
      tells_sent = x.sent ∙ ap (λ (o : Option (List ℕ)). append_known o reset_text) e;
      answers = (answers ++ line) ++ [];
      tells_read = x.was_read ∙ ap (λ (o : Option (List ℕ)). append_known o []) f;
      blank = record {
        whole = whole_append ((sent ++ script) ++ check_sat_text) reset_text asked (whole_line reset_text (Reset ∷ []) plain_lines.2);
        script = record {
          commands = ((cs ++ ks) ++ CheckSat ∷ []) ++ Reset ∷ [];
          holds = holds_append ((sent ++ script) ++ check_sat_text) reset_text ((cs ++ ks) ++ CheckSat ∷ []) (Reset ∷ []) asked
              (holds_append (sent ++ script) check_sat_text (cs ++ ks) (CheckSat ∷ []) behind (holds_append sent script cs ks blank.whole blank.script.holds h.script.holds) plain_lines.0.holds) plain_lines.2.holds;
          runs = runs_then ((cs ++ ks) ++ CheckSat ∷ []) (Reset ∷ []) start state start
              (runs_then (cs ++ ks) (CheckSat ∷ []) start state state (runs_then cs ks start start state blank.script.runs h.script.runs) (check_runs state)) (reset_empties state (not-true state.ended h.running));
        };
      };
      answered = answers_go_on ((cs ++ ks) ++ CheckSat ∷ []) (Reset ∷ []) (answers ++ line) []
          (answers_go_on (cs ++ ks) (CheckSat ∷ []) answers line (answers_stay cs ks answers a silent) (line, [], sym (append-nil line), is_line, refl)) refl;
    }

pub asked_links_are_blank_again : (allows : List ℕ → List ℕ → List ℕ → Type 0) → AskedLinksAreBlankAgain allows
asked_links_are_blank_again allows enums ts d before asked after idle good c b t asks told x =
    let a = asks.ok in
    let script = text enums ts in
    let sent_is : after.sent ≡ Some ((b.sent ++ script) ++ check_sat_text) =
    a.reply.exchanged.sent ∙ ap (λ (o : Option (List ℕ)). append_known o check_sat_text) (t.sent ∙ ap (λ (o : Option (List ℕ)). append_known o script) b.tells_sent) in
    let read_is : after.was_read ≡ Some (b.answers ++ a.line) =
    a.reply.exchanged.was_read ∙ ap (λ (o : Option (List ℕ)). append_known o a.line) (t.same_read ∙ b.tells_read) in
    let told_read : IsTrue (is_some after.was_read) = subst (λ (o : Option (List ℕ)). IsTrue (is_some o)) (sym read_is) refl in
    elim (broken_answers_are_last asked after check_sat_text a.line d told_read told a.reply.exchanged a.reply.piece a.says) [
      | inl is_line ↦ inl (blank_again enums ts after idle b.sent b.answers a.line b.blank good c b.answered is_line sent_is read_is x)
      | inr over ↦ inr over
    ]
