-- Checks of a dialogue are in turn, and so its `unsat` says what it says.
use Rattle.std.proofs.Common.{◌≡◌, ℕ, suc, Bool, true, false, length, List, [], ◌∷◌, ◌++◌, refl, sym, subst, append_assoc, arith, codes}
use Rattle.std.specs.List.{AllByRecursion, concat}
use Rattle.std.proofs.lemmas.List.{append-nil}
use Rattle.law_terms.specs.TypeValues.{Enums}
use Rattle.law_scripts.specs.Script.{CheckSat, Command, HasWholeLines, Holds, SetLogic, State}
use Rattle.law_scripts.proofs.Append.{holds_append, whole_append}
use Rattle.law_scripts.proofs.Laid.{plain_lines, set_logic_line}
use Rattle.law_lines.specs.Command.{commands}
use Rattle.law_lines.specs.Fit.{Fit}
use Rattle.law_lines.specs.Line.{Line, Push, Pop, spelled_line, spelled_lines}
use Rattle.law_lines.specs.Lines.{Call, PushCall, PopCall, EncodeCall, beginning, encode, lines_of_call, option_line}
use Rattle.law_lines.proofs.Levels.{HoldsWhole, holds_then, terms_run}
use Rattle.law_lines.proofs.Spelled.{lines_hold, one_holds, whole_line}
use Rattle.law_lines.proofs.Whole.{begun, begun_fits, first_is_line}
use Rattle.law_theorem.specs.Conditions.{IsCallOfConditions}
use Rattle.law_theorem.specs.Fits.{Fits, FitsNow, Stage, Stages, encoding_of, new_stages, stages_after}
use Rattle.law_theorem.specs.Sessions.{AreStepsOfConditions, CallStep, LineStep, Step, stages_after_steps, text_of_steps}
use Rattle.law_theorem.proofs.FineTerms.{conditions_are_fine}
use Rattle.law_theorem.proofs.FitKept.{calls_keep_fit, empty_text_fits}
use Rattle.law_theorem.proofs.Sessions.{fitting_texts_are_scripts, sessions_keep_fit}
use Rattle.smt_script.specs.CommandTexts.{check_sat_text}
use Rattle.smt_solve.specs.Link.{IsLine}
use Rattle.law_verdicts.specs.Dialogues.{DialogueChecksAreInTurn, DialoguesAreBelieved, HasOnlyChecks, lines_beside}
use Rattle.law_verdicts.specs.Honesty.{AreAnswersTo}
use Rattle.law_verdicts.specs.Verdicts.{logic_text}
use Rattle.law_verdicts.proofs.Asking.{none_asked}
use Rattle.law_verdicts.proofs.Believing.{logic_is_blank, unsat_is_believed}
use Rattle.law_verdicts.proofs.InHand.{answers_go_on}

-- A text of whole lines is commands, and these bytes are the answers to them.
record IsAnsweredText (text answers : List ℕ) : Type 0 where
  commands : List Command
  holds : Holds text commands
  whole : HasWholeLines text
  answered : AreAnswersTo commands answers

-- a text with its answers behind another
text_then : (text more answers others : List ℕ) → IsAnsweredText text answers → IsAnsweredText more others → IsAnsweredText (text ++ more) (answers ++ others)
text_then text more answers others a b = record {
  commands = a.commands ++ b.commands;
  holds = holds_append text more a.commands b.commands a.whole a.holds b.holds;
  whole = whole_append text more a.whole b.whole;
  answered = answers_go_on a.commands b.commands answers others a.answered b.answered;
}

nothing_answered : IsAnsweredText [] []
nothing_answered = record { commands = []; holds = (lines_hold [] refl).0; whole = tt; answered = refl }

logic_answered : IsAnsweredText logic_text []
logic_answered = record { commands = SetLogic (codes "ALL") ∷ []; holds = (set_logic_line (codes "ALL") refl).holds; whole = logic_is_blank.whole; answered = refl }

check_answered : (answer : List ℕ) → IsLine answer → IsAnsweredText check_sat_text answer
check_answered answer h = record {
  commands = CheckSat ∷ [];
  holds = plain_lines.0.holds;
  whole = whole_line check_sat_text (CheckSat ∷ []) plain_lines.0;
  answered = (answer, [], sym (append-nil answer), h, refl);
}

-- ---- calls

-- the tables of a stage fit a state
tables_fit : (enums : Enums) (b : Bool) (x : Stage) (state : State) → FitsNow enums b x state → (u : State) × Fit enums x.tables u
tables_fit enums true x state f = (state, f.declared)
tables_fit enums false x state f = (begun, subst (λ (y : Stage). Fit enums y.tables begun) (sym f.0) (begun_fits enums))

beginning_holds : (b : Bool) → HoldsWhole (beginning b)
beginning_holds true = lines_hold [] refl
beginning_holds false = one_holds (spelled_line option_line) [] _ [] first_is_line (lines_hold [] refl)

call_holds : (enums : Enums) (text : List ℕ) (x : Stages) (c : Call) → Fits enums text x → IsCallOfConditions enums c (encoding_of x) → HoldsWhole (lines_of_call enums c (encoding_of x))
call_holds enums text x PushCall f c = holds_then (beginning x.begun) (Push ∷ []) (beginning_holds x.begun) (lines_hold (Push ∷ []) refl)
call_holds enums text x PopCall f c = lines_hold (Pop ∷ []) refl
call_holds enums text x (EncodeCall ts) f c =
    let fit = tables_fit enums x.begun x.now f.state f.now in
    holds_then (beginning x.begun) (encode enums ts x.now.tables).lines (beginning_holds x.begun)
    (terms_run enums ts x.now.tables fit.0 (conditions_are_fine enums ts c) fit.1).holds

-- a call asks nothing
call_answered : (enums : Enums) (text : List ℕ) (x : Stages) (c : Call) → Fits enums text x → IsCallOfConditions enums c (encoding_of x) → IsAnsweredText (spelled_lines (lines_of_call enums c (encoding_of x))) []
call_answered enums text x c f k =
    let ls : List Line = lines_of_call enums c (encoding_of x) in
    let held = call_holds enums text x c f k in
    record { commands = commands ls; holds = held.0; whole = held.1; answered = none_asked ls }

-- ---- steps

steps_answered : (enums : Enums) (text : List ℕ) (x : Stages) (steps : List Step) (answers : List (List ℕ)) → Fits enums text x → AreStepsOfConditions enums steps x → HasOnlyChecks steps
    → length answers ≡ lines_beside steps → AllByRecursion IsLine answers → IsAnsweredText (text_of_steps enums steps x) (concat answers)
steps_answered enums text x [] [] f s only count h = nothing_answered
steps_answered enums text x [] (a ∷ answers) f s only count h = absurd (cc)
steps_answered enums text x (CallStep c ∷ steps) answers f s only count h =
    let one = spelled_lines (lines_of_call enums c (encoding_of x)) in
    let y = stages_after enums c x in
    text_then one (text_of_steps enums steps y) [] (concat answers) (call_answered enums text x c f s.0)
    (steps_answered enums (text ++ one) y steps answers (calls_keep_fit enums text x c f s.0) s.1 only count h)
steps_answered enums text x (LineStep line ∷ steps) [] f s only count h = absurd (cc)
steps_answered enums text x (LineStep line ∷ steps) (a ∷ answers) f s only count h =
    text_then line (text_of_steps enums steps x) a (concat answers) (subst (λ (t : List ℕ). IsAnsweredText t a) (sym only.0) (check_answered a h.0))
    (steps_answered enums (text ++ (line ++ [])) x steps answers (sessions_keep_fit enums text x (LineStep line ∷ []) f (s.0, tt)) s.1 only.1 (suc_same (length answers) (lines_beside steps) count) h.1)
  where
    suc_same : (m n : ℕ) → suc m ≡ suc n → m ≡ n
    suc_same m n e = omega (arith, e)

pub dialogue_checks_are_in_turn : DialogueChecksAreInTurn
dialogue_checks_are_in_turn enums steps answers d =
    let script = text_of_steps enums steps new_stages in
    let all = text_then logic_text script [] (concat answers) logic_answered
    (steps_answered enums [] new_stages steps answers (empty_text_fits enums d.enum_types) d.conditions d.checks d.each_answered d.lines) in
    record {
      before = logic_text ++ script;
      asked = sym (append_assoc logic_text script check_sat_text);
      whole = all.whole;
      commands = all.commands;
      holds = all.holds;
      answered = all.answered;
    }

pub dialogues_are_believed : DialoguesAreBelieved
dialogues_are_believed enums steps answers line d truly says =
    let x : Stages = stages_after_steps enums steps new_stages in
    let script = text_of_steps enums steps new_stages in
    let fits : Fits enums script x = sessions_keep_fit enums [] new_stages steps (empty_text_fits enums d.enum_types) d.conditions in
    unsat_is_believed enums x.now.tables x.now.terms logic_text script (concat answers) line logic_is_blank (fitting_texts_are_scripts enums script x fits)
    (dialogue_checks_are_in_turn enums steps answers d) truly says
