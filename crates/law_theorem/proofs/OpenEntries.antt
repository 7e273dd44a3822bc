-- What is declared and left open is a variable or a function that is reached.
use Rattle.std.proofs.Common.{ℕ, List, [], ◌∷◌, sym, ap}
use Rattle.std.specs.List.{AllByRecursion}
use Rattle.law_terms.specs.Plain.{PlainTerm}
use Rattle.law_terms.specs.Reached.{reached_terms}
use Rattle.law_terms.specs.TypeValues.{Enums}
use Rattle.law_texts.specs.Reading.{Expression}
use Rattle.law_scripts.specs.Script.{Entry, Constant, Function, Defined, Builds, Selects, names_of}
use Rattle.law_lines.specs.NameTables.{Tables, text_of_name}
use Rattle.law_theorem.specs.Open.{IsVariable, IsFunction, IsOpenEntry}
use Rattle.law_theorem.specs.Fits.{VariableOrigin, FunctionOrigin, BelongsToAnEntry}
use Rattle.law_theorem.specs.FittingStates.{NamesAreOpen}

module _ (enums : Enums) (us : List PlainTerm) (s : Tables) where
  variable_open : (n : List ℕ) (sort : Expression) → VariableOrigin us s n sort → IsVariable s us n sort
  variable_open n sort h = record { id = h.id; type = h.type; reached = h.reached; named = ap text_of_name (sym h.named); sorted = h.sorted }

  function_open : (n : List ℕ) (argument sort : Expression) → FunctionOrigin us s n argument sort → IsFunction s us n argument sort
  function_open n argument sort h = record {
    function = h.function;
    arguments = h.arguments;
    type = h.type;
    reached = h.reached;
    named = ap text_of_name (sym h.named);
    argument_sorted = h.argument_sorted;
    sorted = h.sorted;
  }

  entry_open : (n : List ℕ) (y : Entry) → BelongsToAnEntry enums us s n y → IsOpenEntry s us n y
  entry_open n (Constant sort) h = variable_open n sort h
  entry_open n (Function argument sort) h = function_open n argument sort h
  entry_open n (Defined sort body) h = tt
  entry_open n (Builds d ps place fields) h = tt
  entry_open n (Selects d ps c place field) h = tt

  all_open : (ds : List (List ℕ × Entry)) → AllByRecursion (λ p. BelongsToAnEntry enums us s p.0 p.1) ds → AllByRecursion (λ p. IsOpenEntry s us p.0 p.1) ds
  all_open [] h = tt
  all_open (d ∷ ds) h = (entry_open d.0 d.1 h.0, all_open ds h.1)

pub names_are_open : NamesAreOpen
names_are_open enums x state f = all_open enums (reached_terms x.terms) x.tables (names_of state) f.only
