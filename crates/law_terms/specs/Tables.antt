-- Interpretations: what stands for variables, functions, and what the theory of datatypes leaves open.
use Rattle.std.specs.Prelude.{ℕ, List, [], ◌∷◌, true, false}
use Rattle.law_terms.specs.ValueOrder.{value_eq}
use Rattle.law_terms.specs.Plain.{PlainType, PlainFunction, ExtensionOp}
use Rattle.law_terms.specs.Values.{Value}

-- a function with finitely many exceptions: pairs of an argument and its value, and the value elsewhere
pub record Table : Type 0 where
  pub entries : List (Value × Value)
  pub elsewhere : Value

-- the value of the first pair with this argument, and the default where there is none
abbrev pub value_among : List (Value × Value) → Value → Value → Value
value_among [] default v = default
value_among (e ∷ es) default v = elim (value_eq e.0 v) [ true ↦ e.1 | false ↦ value_among es default v ]

-- the value of the function at an argument
abbrev pub value_at : Table → Value → Value
value_at table v = value_among table.entries table.elsewhere v

-- An interpretation (SMT-LIB 2.7, chapter 5, "Logical Semantics"): the value of a variable, by its id and type; the table of a
-- function; the value of `option.get` of none, by the inner type; and the table of a selector of IP ranges, for ranges of the other
-- family. The last two are here because SMT-LIB leaves a selector open at a value of another constructor.
pub record Interpretation : Type 0 where
  pub variable : (id : List ℕ) → PlainType → Value
  pub function : PlainFunction → Table
  pub inside_none : PlainType → Value
  pub other_family : ExtensionOp → Table
