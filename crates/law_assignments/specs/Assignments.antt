-- Assignments: literals for all that terms leave open to interpretation.
use Rattle.std.specs.Prelude.{bytes_eq, ℕ, Bool, true, false, List, [], Option}
use Rattle.std.specs.Map.{lookup}
use Rattle.std.specs.Option.{option_map_or}
use Rattle.law_terms.specs.Defaults.{default_interpretation}
use Rattle.law_terms.specs.Functions.{PlainDefinition, table_of}
use Rattle.law_terms.specs.Interpretations.{empty_table, selector_eq, unused_value}
use Rattle.law_terms.specs.Meaning.{term_value}
use Rattle.law_terms.specs.Plain.{PlainType, PlainFunction, ExtensionOp, IpAddrV4Op, IpAddrV6Op, IpPrefixV4Op, IpPrefixV6Op, Ipv4Of, Ipv6Of}
use Rattle.law_terms.specs.Plain.{ExtensionLiteral, PlainTerm, LiteralTerm}
use Rattle.law_terms.specs.Tables.{Interpretation, Table}
use Rattle.law_terms.specs.Types.{type_eq}
use Rattle.law_terms.specs.Values.{Value}

-- An assignment: literals for all that terms leave open to interpretation. Variables and functions go by their ids, each function
-- with its table; what `option.get` of none gives, by the inner type; and selectors of IP ranges, each with its table for ranges of
-- the other family. Of entries with one key the first counts.
pub record PlainAssignment : Type 0 where
  pub variables : List (List ℕ × PlainTerm)
  pub functions : List (List ℕ × PlainDefinition)
  pub gets : List (PlainType × PlainTerm)
  pub selectors : List (ExtensionOp × PlainDefinition)

-- what an assignment gives
module _ (a : PlainAssignment) where
  -- the literal that the assignment gives a variable, if it gives one
  abbrev pub variable_in : (id : List ℕ) → Option PlainTerm
  variable_in id = lookup (bytes_eq id) a.variables

  -- the table that it gives a function, by the function's id
  abbrev pub function_in : PlainFunction → Option PlainDefinition
  function_in f = lookup (bytes_eq f.id) a.functions

  -- the literal that `option.get` of none gives at an inner type
  abbrev pub get_in : (inside : PlainType) → Option PlainTerm
  get_in t = lookup (type_eq t) a.gets

  -- the table that it gives a selector of IP ranges
  abbrev pub selector_in : ExtensionOp → Option PlainDefinition
  selector_in o = lookup (selector_eq o) a.selectors

-- an IP range, as a literal, of the family to which the selector does not belong
abbrev pub is_of_other_family : ExtensionOp → PlainTerm → Bool
is_of_other_family IpAddrV4Op (LiteralTerm (ExtensionLiteral (Ipv6Of x p))) = true
is_of_other_family IpPrefixV4Op (LiteralTerm (ExtensionLiteral (Ipv6Of x p))) = true
is_of_other_family IpAddrV6Op (LiteralTerm (ExtensionLiteral (Ipv4Of x p))) = true
is_of_other_family IpPrefixV6Op (LiteralTerm (ExtensionLiteral (Ipv4Of x p))) = true
is_of_other_family o t = false

-- the value of a literal: it has one in all interpretations, so here it is taken in one of them
abbrev pub value_of_literal : PlainTerm → Value
value_of_literal t = term_value (default_interpretation []) t

-- the table of values that a table of literals defines
abbrev pub table_of_literals : PlainDefinition → Table
table_of_literals f = table_of (default_interpretation []) f

-- The interpretation that gives the values of the literals; what the assignment does not give has a value that does not matter where
-- it covers the terms.
abbrev pub interpretation : PlainAssignment → Interpretation
interpretation a = record {
  variable = λ id t. option_map_or value_of_literal (variable_in a id) unused_value;
  function = λ f. option_map_or table_of_literals (function_in a f) empty_table;
  inside_none = λ t. option_map_or value_of_literal (get_in a t) unused_value;
  other_family = λ o. option_map_or table_of_literals (selector_in a o) empty_table;
}
