-- Functions of one argument: what they are given by, and their values.
use Rattle.std.specs.Prelude.{Bool, false, ◌&&◌, List, [], ◌∷◌, map, IsTrue, ⊤}
use Rattle.std.specs.List.{AllByRecursion, flat_map, list_all}
use Rattle.law_terms.specs.Literals.{is_literal}
use Rattle.law_terms.specs.Meaning.{term_value}
use Rattle.law_terms.specs.Plain.{PlainFunction, PlainTerm, PlainType}
use Rattle.law_terms.specs.Tables.{Interpretation, Table, value_at}
use Rattle.law_terms.specs.Typing.{Typed}
use Rattle.law_terms.specs.Values.{Value}

-- a function that a table defines: its types, its entries in the order of their arguments, and its term elsewhere
pub record PlainDefinition : Type 0 where
  pub argument : PlainType
  pub output : PlainType
  pub entries : List (PlainTerm × PlainTerm)
  pub elsewhere : PlainTerm

-- A function that an interpretation gives, or one that a table defines. No term has one of the second kind: it is applied while
-- terms are built, by folding.
pub data PlainUnary : Type 0 where
  Uninterpreted : PlainFunction → PlainUnary
  Defined : PlainDefinition → PlainUnary

-- the type of the arguments that a function takes
abbrev pub argument_type : PlainUnary → PlainType
argument_type (Uninterpreted f) = f.argument
argument_type (Defined f) = f.argument

-- the type of the values that a function gives
abbrev pub output_type : PlainUnary → PlainType
output_type (Uninterpreted f) = f.output
output_type (Defined f) = f.output

-- an argument and its value are literals
abbrev pub is_literal_entry : PlainTerm × PlainTerm → Bool
is_literal_entry e = is_literal e.0 && is_literal e.1

-- all of its entries, and its term elsewhere, are literals
abbrev pub is_literal_definition : PlainDefinition → Bool
is_literal_definition f = list_all is_literal_entry f.entries && is_literal f.elsewhere

-- a table of literals defines it
abbrev pub is_literal_function : PlainUnary → Bool
is_literal_function (Uninterpreted f) = false
is_literal_function (Defined f) = is_literal_definition f

-- the arguments of its entries are literals
abbrev pub HasLiteralKeys : PlainUnary → Type 0
HasLiteralKeys (Uninterpreted f) = ⊤
HasLiteralKeys (Defined f) = AllByRecursion (λ e. IsTrue (is_literal e.0)) f.entries

-- the arguments and the values of its entries, and its term elsewhere, are typed with the function's types
pub record IsTypedDefinition (f : PlainDefinition) : Type 0 where
  pub keys : AllByRecursion (λ e. Typed e.0 f.argument) f.entries
  pub answers : AllByRecursion (λ e. Typed e.1 f.output) f.entries
  pub elsewhere : Typed f.elsewhere f.output

-- the terms that define a function are typed with its types; one that an interpretation gives has none
abbrev pub IsTypedFunction : PlainUnary → Type 0
IsTypedFunction (Uninterpreted f) = ⊤
IsTypedFunction (Defined f) = IsTypedDefinition f

-- the terms of entries: each argument and its value
abbrev pub entry_terms : List (PlainTerm × PlainTerm) → List PlainTerm
entry_terms es = flat_map (λ e. e.0 ∷ e.1 ∷ []) es

-- the terms that define a function
abbrev pub defining_terms : PlainUnary → List PlainTerm
defining_terms (Uninterpreted f) = []
defining_terms (Defined f) = f.elsewhere ∷ entry_terms f.entries

-- an entry by its values
abbrev pub entry_value : Interpretation → PlainTerm × PlainTerm → Value × Value
entry_value I e = (term_value I e.0, term_value I e.1)

-- the table of values that a definition is in an interpretation
abbrev pub table_of : Interpretation → PlainDefinition → Table
table_of I f = record { entries = map (entry_value I) f.entries; elsewhere = term_value I f.elsewhere }

-- The value of a function at a value. Of one that a table defines it is the value of the first entry whose argument has that
-- value, and where there is none the value elsewhere.
abbrev pub function_value : Interpretation → PlainUnary → Value → Value
function_value I (Uninterpreted f) v = value_at (I.function f) v
function_value I (Defined f) v = value_at (table_of I f) v
