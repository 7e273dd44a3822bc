-- Look-ups by the edges of what is written.
use Rattle.std.proofs.Common.{◌≡◌, ℕ, suc, ◌*◌, ◌≤◌, Bool, true, false, List, [], ◌∷◌, length, Option, Some, None, refl, ap, ◌∙◌, arith}
use Rattle.std.specs.Prelude.{slice_get}
use Rattle.law_terms.specs.Plain.{RecordGetOp}
use Rattle.law_terms.specs.Meanings.{all_found, stands_for}
use Rattle.law_terms.specs.Nodes.{Meaning, PlainLabel, ApplicationLabel, PlainNode}
use Rattle.law_terms.proofs.Distinct.{node_stands}
use Rattle.smt_nodes.specs.Interned.{nodes_of}
use Rattle.smt_nodes.specs.declared.interner.Interner.{Interner}
use Rattle.smt_spelling.specs.LookUps.{edges, edges_at, edges_from, look_ups, look_ups_at, look_ups_from, selections}

-- an application of `record.get` has parts, and nothing else takes a look-up more
selection_has_parts : (l : PlainLabel) (parts : List ℕ) (ms : List (Option Meaning)) (ps : List Meaning) (m : Meaning) → all_found ms parts ≡ Some ps → stands_for l ps ≡ Some m → selections l ≤ length parts
selection_has_parts (ApplicationLabel (RecordGetOp a)) [] ms ps m found is = absurd (nothing m (ap (stands_for (ApplicationLabel (RecordGetOp a))) (none ps found) ∙ is))
  where
    none : (ps : List Meaning) → ◌≡◌ {A = Option (List Meaning)} (Some []) (Some ps) → [] ≡ ps
    none ps e = cc

    nothing : (m : Meaning) → None ≡ Some m → ⊥
    nothing m e = cc
selection_has_parts (ApplicationLabel (RecordGetOp a)) (part ∷ parts) ms ps m found is = omega arith
selection_has_parts (ApplicationLabel o) parts ms ps m found is = omega arith
selection_has_parts l parts ms ps m found is = omega arith

at_node : (is_there : Bool) (node : PlainNode) → selections node.label ≤ length node.parts → look_ups_at is_there node ≤ 2 * edges_at is_there node
at_node true node h = omega (arith, h)
at_node false node h = omega arith

from : (has : ℕ → Bool) (place : ℕ) (nodes : List PlainNode) → ((i : ℕ) (node : PlainNode) → slice_get nodes i ≡ Some node → selections node.label ≤ length node.parts) → look_ups_from has place nodes ≤ 2 * edges_from has place nodes
from has place [] h = omega arith
from has place (node ∷ nodes) h =
    let here = at_node (has place) node (h 0 node refl) in
    let rest = from has (suc place) nodes (λ i. h (suc i)) in
    omega (arith, here, rest)

pub within_edges : (i : Interner) (has : ℕ → Bool) → look_ups has (nodes_of i) ≤ 2 * edges has (nodes_of i)
within_edges i has = from has 0 (nodes_of i) (λ place node there. let s = node_stands (nodes_of i) i.graph place node there in selection_has_parts node.label node.parts _ s.parts s.meaning s.found_parts s.label)
