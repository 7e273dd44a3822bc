-- What an interpretation of a script gives to the names that are left open.
use Rattle.std.proofs.Common.{List, [], ◌∷◌}
use Rattle.std.specs.Prelude.{IsTrue}
use Rattle.std.specs.List.{AllByRecursion}
use Rattle.std.proofs.lemmas.List.Elements.{recursion_from_All}
use Rattle.law_terms.specs.Plain.{PlainOp, UufOp, PlainTerm, Application, VariableTerm}
use Rattle.law_terms.specs.Reached.{reached_terms}
use Rattle.law_scripts.specs.Script.{Constant, Function, State, names_of}
use Rattle.law_scripts.specs.Sorts.{entries}
use Rattle.law_scripts.specs.Value.{ScriptInterpretation, IsScriptInterpretation, is_entry_given}
use Rattle.law_lines.specs.Naming.{type_sort}
use Rattle.law_lines.specs.NameTables.{Tables}
use Rattle.law_theorem.specs.CarriedInterpretations.{variable_name, function_name}
use Rattle.law_theorem.proofs.Standing.{of_entry}
use Rattle.law_theorem.specs.FittingStates.{IsOpOpen, IsOpen, IsOpGiven, IsNameGiven, InterpretationsGiveNames}

module _ (s : Tables) (state : State) (J : ScriptInterpretation) (h : IsScriptInterpretation J state) where
  all_given : AllByRecursion (λ p. IsTrue (is_entry_given J (entries state) p.0 p.1)) (names_of state)
  all_given = recursion_from_All (λ p. IsTrue (is_entry_given J (entries state) p.0 p.1)) (names_of state) h.declared

  op_given : (op : PlainOp) → IsOpOpen s (entries state) op → IsOpGiven s (entries state) J op
  op_given (UufOp f) o = of_entry (λ n x. IsTrue (is_entry_given J (entries state) n x)) (names_of state) all_given (function_name s f) (Function (type_sort s f.argument) (type_sort s f.output)) o
  op_given op o = tt

  name_given : (t : PlainTerm) → IsOpen s (entries state) t → IsNameGiven s (entries state) J t
  name_given (VariableTerm id t) o = of_entry (λ n x. IsTrue (is_entry_given J (entries state) n x)) (names_of state) all_given (variable_name s id t) (Constant (type_sort s t)) o
  name_given (Application op ts t) o = op_given op o
  name_given t o = tt

  each_given : (us : List PlainTerm) → AllByRecursion (IsOpen s (entries state)) us → AllByRecursion (IsNameGiven s (entries state) J) us
  each_given [] o = tt
  each_given (t ∷ us) o = (name_given t o.0, each_given us o.1)

pub interpretations_give_names : InterpretationsGiveNames
interpretations_give_names s state ts J o h = each_given s state J h (reached_terms ts) o
