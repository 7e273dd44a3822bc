-- What `unsat` says where the link is honest.
use Rattle.std.proofs.Common.{◌≡◌, ℕ, Bool, true, false, List, [], ◌∷◌, ◌++◌, refl, subst, codes, Some}
use Rattle.std.proofs.lemmas.Bool.{false≢true}
use Rattle.std.proofs.lemmas.List.Elements.{All-from_recursion}
use Rattle.law_terms.specs.Interpretations.{IsInterpretation}
use Rattle.law_terms.specs.Plain.{PlainTerm}
use Rattle.law_terms.specs.Tables.{Interpretation}
use Rattle.law_terms.specs.Defaults.{default_interpretation}
use Rattle.law_terms.specs.TypeValues.{Enums}
use Rattle.law_scripts.specs.Script.{CheckSat, SetLogic, State, Script, start, run}
use Rattle.law_scripts.specs.Written.{IsOpenScript}
use Rattle.law_scripts.specs.Value.{IsModel, IsScriptInterpretation, ScriptInterpretation}
use Rattle.law_scripts.proofs.Append.{runs_then, holds_append}
use Rattle.law_scripts.proofs.Commands.{one_state}
use Rattle.law_scripts.proofs.Laid.{plain_lines, set_logic_line}
use Rattle.law_lines.specs.NameTables.{Tables, no_names}
use Rattle.law_lines.proofs.Spelled.{lines_hold, whole_line}
use Rattle.law_theorem.specs.CarriedInterpretations.{carry_interpretation}
use Rattle.law_theorem.specs.Headline.{Headline}
use Rattle.law_terms.specs.Meaning.{AreTrue}
use Rattle.smt_script.specs.CommandTexts.{check_sat_text}
use Rattle.smt_solve.specs.Answers.{StripsTo}
use Rattle.law_verdicts.specs.Honesty.{HasNoModel, IsInTurn}
use Rattle.law_verdicts.specs.Verdicts.{AnyLineIsNotHonest, IsBlankScript, LogicIsBlank, SilenceIsHonest, UnsatIsBelieved, logic_text}

-- a check leaves what there is
pub check_runs : (s : State) → run (CheckSat ∷ []) s ≡ Some s
check_runs s = by s.ended
  where
    by : (b : Bool) → run (CheckSat ∷ []) (record s { ended = b }) ≡ Some (record s { ended = b })
    by true = refl
    by false = refl

-- The script of terms behind a script that leaves nothing, and a check, come to the state of the terms.
asked_state : (before text : List ℕ) (state : State) → IsBlankScript before → IsOpenScript text state → Script (before ++ (text ++ check_sat_text)) state
asked_state before text state blank s =
    let asks = plain_lines.0 in
    record {
      commands = blank.script.commands ++ (s.script.commands ++ CheckSat ∷ []);
      holds = holds_append before (text ++ check_sat_text) blank.script.commands (s.script.commands ++ CheckSat ∷ []) blank.whole blank.script.holds
          (holds_append text check_sat_text s.script.commands (CheckSat ∷ []) s.whole s.script.holds asks.holds);
      runs = runs_then blank.script.commands (s.script.commands ++ CheckSat ∷ []) start start state blank.script.runs
          (runs_then s.script.commands (CheckSat ∷ []) start state state s.script.runs (check_runs state));
    }

believed : (enums : Enums) (s : Tables) (ts : List PlainTerm) (before script : List ℕ) (h : Headline enums s ts script) → IsBlankScript before → HasNoModel (before ++ (script ++ check_sat_text))
    → (I : Interpretation) → IsInterpretation enums ts I → AreTrue I ts → ⊥
believed enums s ts before script h blank none I given hold =
    let J = carry_interpretation enums s I in
    let same = one_state (before ++ (script ++ check_sat_text)) h.state none.state (asked_state before script h.state blank h.script) none.script in
    none.no_model J (subst (IsScriptInterpretation J) same (h.represents.carried I given)) (subst (IsModel J) same ((h.represents.true_in I given).0 hold))

-- of the empty text nothing is declared or asserted
nothing_given : (J : ScriptInterpretation) → IsScriptInterpretation J start
nothing_given J = record { declared = All-from_recursion _ [] tt; selected = All-from_recursion _ [] tt }

nothing_asserted : (J : ScriptInterpretation) → IsModel J start
nothing_asserted J = All-from_recursion _ [] tt

pub logic_is_blank : LogicIsBlank
logic_is_blank = record {
  whole = whole_line logic_text (SetLogic (codes "ALL") ∷ []) (set_logic_line (codes "ALL") refl);
  script = record { commands = SetLogic (codes "ALL") ∷ []; holds = (set_logic_line (codes "ALL") refl).holds; runs = refl };
}

pub unsat_is_believed : UnsatIsBelieved
unsat_is_believed enums s ts before script was_read line blank h turn honest says I given hold = believed enums s ts before script h blank (honest says turn) I given hold

pub any_line_is_not_honest : AnyLineIsNotHonest
any_line_is_not_honest honest =
    let none = honest check_sat_text [] (codes "unsat") tt unsat_says asks_first in
    let J = carry_interpretation [] no_names (default_interpretation []) in
    let same = one_state check_sat_text start none.state only_asks none.script in
    none.no_model J (subst (IsScriptInterpretation J) same (nothing_given J)) (subst (IsModel J) same (nothing_asserted J))
  where
    unsat_says : StripsTo (codes "unsat") (codes "unsat")
    unsat_says = record { front = []; back = []; whole = refl; blank_front = All-from_recursion _ [] tt; blank_back = All-from_recursion _ [] tt; sharp = record { first = λ h k. false≢true k; last = λ h k. false≢true k } }

    asks_first : IsInTurn check_sat_text []
    asks_first = record { before = []; asked = refl; whole = tt; commands = []; holds = (lines_hold [] refl).0; answered = refl }

    only_asks : Script check_sat_text start
    only_asks = record { commands = CheckSat ∷ []; holds = plain_lines.0.holds; runs = refl }

pub silence_is_honest : SilenceIsHonest
silence_is_honest sent was_read line h = absurd h
