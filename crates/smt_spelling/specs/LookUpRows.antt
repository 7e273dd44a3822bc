-- Worked examples of look-ups.
use Rattle.std.specs.Prelude.{ℕ, zero, suc, ◌≡◌, true, List, [], ◌∷◌, codes}
use Rattle.law_terms.specs.Plain.{EqOp, RecordGetOp}
use Rattle.law_terms.specs.NodeRows.{negation, node, sum}
use Rattle.law_terms.specs.Nodes.{PlainNode, ApplicationLabel, BitVecLabel, BoolLabel, RecordLabel, VariableLabel}
use Rattle.smt_spelling.specs.LookUps.{look_ups, IsClosed}

-- as many sums, each of the node before with itself, which stands at this place; and the last compared with the node at place 2
abbrev pub sums_behind : (place count : ℕ) → List PlainNode
sums_behind place zero = node (ApplicationLabel EqOp) (1 ∷ place ∷ 2 ∷ []) ∷ []
sums_behind place (suc count) = node (ApplicationLabel sum) (0 ∷ place ∷ place ∷ []) ∷ sums_behind (suc place) count

-- a variable of 64 bits, doubled forty times, and compared with itself
abbrev pub doubled : List PlainNode
doubled = node (BitVecLabel 64) [] ∷ node BoolLabel [] ∷ node (VariableLabel (codes "x")) (0 ∷ []) ∷ sums_behind 2 40

-- a variable of a record type with one attribute, which is a truth value, and the attribute
abbrev pub attribute_taken : List PlainNode
attribute_taken =
    node BoolLabel [] ∷ node (RecordLabel (codes "a" ∷ [])) (0 ∷ []) ∷ node (VariableLabel (codes "r")) (1 ∷ [])
    ∷ node (ApplicationLabel (RecordGetOp (codes "a"))) (0 ∷ 2 ∷ []) ∷ []

-- how many look-ups writing takes of a negation, of doubled sums, which are shared, and of an attribute
pub record LookUpRows : Type 0 where
  -- all nodes of a list are a set that has the parts of its nodes
  pub all_are_closed : (nodes : List PlainNode) → IsClosed nodes (λ place. true)
  -- one look-up of the variable, and two of its negation
  pub of_negation : look_ups (λ place. true) negation ≡ 3
  -- one look-up of the variable, three of each sum, and three of the comparison
  pub of_sums : look_ups (λ place. true) doubled ≡ 124
  -- one look-up of the record type, one of the variable, two of the application, and one for its selector
  pub of_attribute : look_ups (λ place. true) attribute_taken ≡ 5
