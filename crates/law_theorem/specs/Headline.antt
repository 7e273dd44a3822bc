-- What the main theorem says: bytes are a script, and its models are exactly the interpretations that make all terms true.
use Rattle.std.specs.Prelude.{◌≡◌, ◌↔◌, ℕ, IsTrue, map, List, [], ◌∷◌, ◌++◌, Some, ⊤}
use Rattle.law_terms.specs.Plain.{PlainTerm}
use Rattle.law_terms.specs.Defaults.{default_interpretation}
use Rattle.law_terms.specs.Interpretations.{IsInterpretation}
use Rattle.law_terms.specs.Meaning.{AreTrue, term_value}
use Rattle.law_terms.specs.Operators.{truth}
use Rattle.law_terms.specs.Reached.{reached_variables, reached_functions}
use Rattle.law_terms.specs.Tables.{Interpretation}
use Rattle.law_terms.specs.TypeValues.{Enums}
use Rattle.law_texts.specs.Reading.{Expression}
use Rattle.law_scripts.specs.Script.{State, is_in, assertions_of}
use Rattle.law_scripts.specs.ScriptValues.{TruthOf}
use Rattle.law_scripts.specs.Value.{ScriptInterpretation, IsScriptInterpretation, AgreeFor, IsModel, expression_value, free_names}
use Rattle.law_scripts.specs.Written.{IsOpenScript}
use Rattle.law_lines.specs.TermTexts.{text_of}
use Rattle.law_lines.specs.NameTables.{Tables}
use Rattle.law_lines.specs.Naming.{IsOneToOne}
use Rattle.law_theorem.specs.CarriedInterpretations.{carry_interpretation, back_interpretation, variable_name, function_name}

-- one expression for each term, at its place: the term's text
abbrev pub AreTexts : Tables → List PlainTerm → List Expression → Type 0
AreTexts s [] [] = ⊤
AreTexts s (t ∷ ts) (e ∷ es) = (text_of s t ≡ Some e) × AreTexts s ts es
AreTexts s ts es = ⊥

-- each expression has the value of the term at its place
abbrev pub HaveTermValues : Interpretation → ScriptInterpretation → State → List PlainTerm → List Expression → Type 0
HaveTermValues I J state [] [] = ⊤
HaveTermValues I J state (t ∷ ts) (e ∷ es) =
    (expression_value J state e ≡ Some (TruthOf (truth (term_value I t)))) × HaveTermValues I J state ts es
HaveTermValues I J state ts es = ⊥

-- the names that tables give to the variables and functions that terms reach
abbrev pub reached_names : Tables → List PlainTerm → List (List ℕ)
reached_names s ts = map (λ v. variable_name s v.0 v.1) (reached_variables ts) ++ map (function_name s) (reached_functions ts)

-- What the state of a script is for terms, with the names that were given for them.
pub record Represents (enums : Enums) (s : Tables) (ts : List PlainTerm) (state : State) : Type 0 where
  -- There is one assertion for each term, in order: the term's text.
  pub assertions : AreTexts s ts (assertions_of state)
  -- In each of the tables two keys have two names.
  pub one_to_one : IsOneToOne s
  -- The script's free names are exactly those of the variables and functions that the terms reach.
  pub free : (n : List ℕ) → IsTrue (is_in n (free_names state)) ↔ IsTrue (is_in n (reached_names s ts))
  -- An interpretation of the terms, carried over, is one of the script, and each assertion has its term's value in it.
  pub carried : (I : Interpretation) → IsInterpretation enums ts I → IsScriptInterpretation (carry_interpretation enums s I) state
  pub values : (I : Interpretation) → IsInterpretation enums ts I →
      HaveTermValues I (carry_interpretation enums s I) state ts (assertions_of state)
  -- An interpretation of the script comes back as one of the terms, which is carried to it again.
  pub back : (J : ScriptInterpretation) → IsScriptInterpretation J state → IsInterpretation enums ts (back_interpretation enums s J)
  pub again : (J : ScriptInterpretation) → IsScriptInterpretation J state →
      AgreeFor (carry_interpretation enums s (back_interpretation enums s J)) J state
  -- So the models are exactly the interpretations that make all terms true.
  pub models : (J : ScriptInterpretation) → IsScriptInterpretation J state → IsModel J state ↔ AreTrue (back_interpretation enums s J) ts
  pub true_in : (I : Interpretation) → IsInterpretation enums ts I → AreTrue I ts ↔ IsModel (carry_interpretation enums s I) state

-- What bytes say of terms, with the names that were given for them. Nothing is said of whether the script is well sorted, nor of terms
-- that are not typed, of functions that are no finite table, and of a solver.
pub record Headline (enums : Enums) (s : Tables) (ts : List PlainTerm) (bytes : List ℕ) : Type 0 where
  -- what the bytes come to
  pub state : State
  -- The bytes are a whole script by the grammar, which declares each name once, before its use.
  pub script : IsOpenScript bytes state
  -- Its state represents the terms.
  pub represents : Represents enums s ts state
  -- The terms have an interpretation.
  pub interpreted : IsInterpretation enums ts (default_interpretation enums)
