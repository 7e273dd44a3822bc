-- Whether an assignment gives all that terms reach, and what it lacks.
use Rattle.std.specs.Prelude.{◌≡◌, ◌↔◌, ℕ, Bool, true, false, not, ◌&&◌, IsTrue, List, [], Option, None, option_map, is_some}
use Rattle.std.specs.List.{AllByRecursion, find}
use Rattle.std.specs.Option.{option_map_or}
use Rattle.law_assignments.specs.Assignments.{PlainAssignment, variable_in, function_in, get_in, selector_in}
use Rattle.law_terms.specs.Functions.{PlainDefinition}
use Rattle.law_terms.specs.Names.{extension_op_name, op_name}
use Rattle.law_terms.specs.Plain.{PlainType, PlainFunction, PlainOp, ExtOp, OptionGetOp, UufOp, PlainTerm, Application, VariableTerm}
use Rattle.law_terms.specs.Reached.{reached_terms, selector_of_extension}
use Rattle.law_terms.specs.Types.{is_type, type_eq, type_of}

-- a table with the function's types
abbrev pub is_table_of : PlainFunction → PlainDefinition → Bool
is_table_of f d = type_eq d.argument f.argument && type_eq d.output f.output

-- whether the assignment gives what one term asks for itself: a variable a literal of its type
module _ (a : PlainAssignment) where
  -- the assignment gives what an operator asks for: a function its table, `option.get` its inner type, a selector its table
  abbrev pub gives_op : PlainOp → PlainType → Bool
  gives_op (UufOp f) t = option_map_or (is_table_of f) (function_in a f) false
  gives_op OptionGetOp t = is_some (get_in a t)
  gives_op (ExtOp o) t = option_map_or (λ s. is_some (selector_in a s)) (selector_of_extension o) true
  gives_op o t = true

  -- the assignment gives what one term asks for itself: a variable has a literal of its type
  abbrev pub gives : PlainTerm → Bool
  gives (VariableTerm id t) = is_type (option_map type_of (variable_in a id)) t
  gives (Application o ts t) = gives_op o t
  gives t = true

-- the assignment gives all that the terms reach
abbrev pub Covers : PlainAssignment → List PlainTerm → Type 0
Covers a ts = AllByRecursion (λ w. IsTrue (gives a w)) (reached_terms ts)

-- the name by which it is told what an operator asks for: a function's id, `option.get`, or a selector's own name
abbrev pub asked_op : PlainOp → List ℕ
asked_op (UufOp f) = f.id
asked_op (ExtOp o) = extension_op_name o
asked_op o = op_name o

-- the name by which it is told what a term asks for itself: a variable's id, or that of its operator
abbrev pub asked : PlainTerm → List ℕ
asked (VariableTerm id t) = id
asked (Application o ts t) = asked_op o
asked t = []

-- the first that the terms reach, parts before what they are parts of, and that the assignment does not give
abbrev pub first_missing : PlainAssignment → List PlainTerm → Option (List ℕ)
first_missing a ts = option_map asked (find (λ w. not (gives a w)) (reached_terms ts))

-- nothing is missing exactly where all is given
abbrev pub NothingMissingIsCovered : Type 0
NothingMissingIsCovered = (a : PlainAssignment) (ts : List PlainTerm) → (first_missing a ts ≡ None) ↔ Covers a ts
