-- Tables of the names that were given to terms, types and functions.
use Rattle.std.specs.Prelude.{ℕ, List, [], Option, Some, None}
use Rattle.std.specs.Map.{lookup}
use Rattle.law_terms.specs.Plain.{PlainType, PlainFunction, PlainTerm}
use Rattle.law_terms.specs.Types.{type_eq}
use Rattle.law_terms.specs.Interpretations.{function_eq}
use Rattle.law_terms.specs.TermOrder.{term_eq}

-- what has a name, in the order in which the names were given
pub record Tables : Type 0 where
  pub terms : List (PlainTerm × List ℕ)
  pub types : List (PlainType × List ℕ)
  pub functions : List (PlainFunction × List ℕ)

-- the tables before anything has a name
abbrev pub no_names : Tables
no_names = record { terms = []; types = []; functions = [] }

-- the name of a term's entry
abbrev pub name_of_term : Tables → PlainTerm → Option (List ℕ)
name_of_term s t = lookup (term_eq t) s.terms

-- the name of a type's entry, which is its datatype's
abbrev pub name_of_type : Tables → PlainType → Option (List ℕ)
name_of_type s t = lookup (type_eq t) s.types

-- the name of a function's entry
abbrev pub name_of_function : Tables → PlainFunction → Option (List ℕ)
name_of_function s f = lookup (function_eq f) s.functions

-- the text of an atom that is a name
abbrev pub text_of_name : Option (List ℕ) → List ℕ
text_of_name (Some n) = n
text_of_name None = []
