-- Clauses of what is known without an interpretation.
use Rattle.std.specs.Prelude.{◌≡◌, Bool, true, false, ◌&&◌, [], ◌∷◌, IsTrue}
use Rattle.std.specs.List.{list_all}
use Rattle.law_terms.specs.Interpretations.{empty_table, unused_value}
use Rattle.law_terms.specs.Plain.{ExtensionOp, IpAddrV4Op, IpAddrV6Op, IpPrefixV4Op, IpPrefixV6Op, ExtOp, OptionGetOp, PlainOp, UufOp}
use Rattle.law_terms.specs.Plain.{PlainTerm, Application, VariableTerm}
use Rattle.law_terms.specs.Reached.{subterms}
use Rattle.law_terms.specs.Tables.{Interpretation}
use Rattle.law_terms.specs.Typing.{typed}
use Rattle.law_clauses.specs.Sequents.{IsAlwaysValid, always, ◌⊢◌}
use Rattle.law_clauses.specs.Statements.{Apart, Atom, BitOf, Element, Same, TruthOf, Value_of, Within, atom_truth}

-- an operator of extension types that asks nothing of an interpretation: all but the selectors of IP ranges
abbrev pub is_known_extension : ExtensionOp → Bool
is_known_extension IpAddrV4Op = false
is_known_extension IpAddrV6Op = false
is_known_extension IpPrefixV4Op = false
is_known_extension IpPrefixV6Op = false
is_known_extension o = true

-- an operator that asks nothing of an interpretation; `option.get` is not counted
abbrev pub is_known_op : PlainOp → Bool
is_known_op (UufOp f) = false
is_known_op OptionGetOp = false
is_known_op (ExtOp o) = is_known_extension o
is_known_op o = true

-- a term that by itself asks nothing of an interpretation
abbrev pub is_known_here : PlainTerm → Bool
is_known_here (VariableTerm id t) = false
is_known_here (Application o ts t) = is_known_op o
is_known_here t = true

-- a typed term in which nothing asks anything of an interpretation
abbrev pub is_known : PlainTerm → Bool
is_known t = typed t && list_all is_known_here (subterms t)

-- an element of such terms
abbrev pub is_known_element : Element → Bool
is_known_element (Value_of t) = is_known t
is_known_element (Apart s t) = is_known s && is_known t

-- a statement of such terms
abbrev pub is_known_atom : Atom → Bool
is_known_atom (TruthOf t) = is_known t
is_known_atom (BitOf t k) = is_known t
is_known_atom (Same a b) = is_known_element a && is_known_element b
is_known_atom (Within a s) = is_known_element a && is_known s
is_known_atom a = false

-- an interpretation, to compute in
abbrev pub blank : Interpretation
blank = record {
  variable = λ id t. unused_value;
  function = λ f. empty_table;
  inside_none = λ t. unused_value;
  other_family = λ o. empty_table;
}

-- A statement of known terms is true everywhere or nowhere: two literals that differ, a match at a literal, a literal's bit, a
-- literal among literals are all of this kind.
pub record KnownIsValid : Type 0 where
  pub holds : (a : Atom) → IsTrue (is_known_atom a) → atom_truth blank a ≡ true → IsAlwaysValid (always a)
  pub fails : (a : Atom) → IsTrue (is_known_atom a) → atom_truth blank a ≡ false → IsAlwaysValid ((a ∷ []) ⊢ [])
