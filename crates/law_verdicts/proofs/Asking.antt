-- The text of conditions holds no question, so that one that is asked behind it is in turn.
use Rattle.std.proofs.Common.{◌≡◌, ℕ, List, [], ◌∷◌, ◌++◌, refl, sym, ap, ◌∙◌, append_assoc, codes}
use Rattle.std.proofs.lemmas.List.{append-nil}
use Rattle.law_terms.specs.Plain.{PlainTerm}
use Rattle.law_terms.specs.TypeValues.{Enums}
use Rattle.law_scripts.specs.Script.{SetLogic}
use Rattle.law_scripts.proofs.Laid.{set_logic_line}
use Rattle.law_lines.specs.Command.{commands}
use Rattle.law_lines.specs.Line.{Line, Comment, DeclareDatatype, DeclareConst, DeclareFun, DefineFun, Assert, Push, Pop, spelled_line, spelled_lines}
use Rattle.law_lines.specs.Lines.{encode, option_line}
use Rattle.law_lines.specs.NameTables.{no_names}
use Rattle.law_lines.specs.Text.{text}
use Rattle.law_lines.proofs.Levels.{HoldsWhole, holds_then, terms_run}
use Rattle.law_lines.proofs.Spelled.{lines_hold, one_holds}
use Rattle.law_lines.proofs.Whole.{begun, begun_fits, first_is_line}
use Rattle.law_theorem.specs.Conditions.{AreConditions}
use Rattle.law_theorem.proofs.FineTerms.{conditions_are_fine}
use Rattle.smt_script.specs.CommandTexts.{check_sat_text}
use Rattle.law_verdicts.specs.Honesty.{AreAnswersTo}
use Rattle.law_verdicts.specs.Verdicts.{ChecksAreInTurn, logic_text, question_of}

-- no command of a stated line is a question
pub none_asked : (ls : List Line) → AreAnswersTo (commands ls) []
none_asked [] = refl
none_asked (Comment x ∷ ls) = none_asked ls
none_asked (DeclareDatatype n ps cs ∷ ls) = none_asked ls
none_asked (DeclareConst n sort ∷ ls) = none_asked ls
none_asked (DeclareFun n argument sort ∷ ls) = none_asked ls
none_asked (DefineFun n sort body ∷ ls) = none_asked ls
none_asked (Assert e ∷ ls) = none_asked ls
none_asked (Push ∷ ls) = none_asked ls
none_asked (Pop ∷ ls) = none_asked ls

-- what is written for conditions
abbrev pub lines_for : Enums → List PlainTerm → List Line
lines_for enums ts = (option_line ∷ []) ++ (encode enums ts no_names).lines

pub text_is : (enums : Enums) (ts : List PlainTerm) → text enums ts ≡ spelled_lines (lines_for enums ts)
text_is enums ts = ap spelled_lines (append-nil (lines_for enums ts))

pub lines_held : (enums : Enums) (ts : List PlainTerm) → AreConditions enums ts → HoldsWhole (lines_for enums ts)
lines_held enums ts c =
    holds_then (option_line ∷ []) (encode enums ts no_names).lines
    (one_holds (spelled_line option_line) [] _ [] first_is_line (lines_hold [] refl))
    (terms_run enums ts no_names begun (conditions_are_fine enums ts c) (begun_fits enums)).holds

pub checks_are_in_turn : ChecksAreInTurn
checks_are_in_turn enums ts good c =
    let ls = lines_for enums ts in
    let held = lines_held enums ts c in
    let all = one_holds logic_text (spelled_lines ls) (SetLogic (codes "ALL") ∷ []) (commands ls) (set_logic_line (codes "ALL") refl) held in
    record {
      before = logic_text ++ spelled_lines ls;
      asked = ap (λ (t : List ℕ). question_of t) (text_is enums ts) ∙ sym (append_assoc logic_text (spelled_lines ls) check_sat_text);
      whole = all.1;
      commands = SetLogic (codes "ALL") ∷ commands ls;
      holds = all.0;
      answered = none_asked ls;
    }
