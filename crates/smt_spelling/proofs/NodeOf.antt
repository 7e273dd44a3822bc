-- The node of a number, by its label and its parts.
use Rattle.std.proofs.Common.{◌≡◌, Some, Option, sym, ap, subst, ◌∙◌}
use Rattle.std.specs.Prelude.{IfSome, option_map, slice_get}
use Rattle.law_terms.specs.Meanings.{all_found, meanings}
use Rattle.law_terms.specs.Nodes.{Meaning}
use Rattle.law_terms.specs.Parts.{label_in, parts_in}
use Rattle.smt_nodes.specs.Interned.{nodes_of}
use Rattle.smt_nodes.specs.View.{ids_of, place_of, places_of, plain_node}
use Rattle.smt_nodes.specs.declared.id.NodeId.{NodeId}
use Rattle.smt_nodes.specs.declared.interner.Interner.{Interner}
use Rattle.smt_nodes.specs.declared.node.Node.{Node}
use Rattle.smt_nodes.proofs.Labels.{label_is, parts_are, parts_before}
use Rattle.smt_spelling.specs.NodeTexts.{IsNodeOf}

-- an equal copy of the node that stands at a number is the number's node
pub is_node_of : (i : Interner) (id : NodeId) (node copy : Node) → slice_get (nodes_of i) (place_of id) ≡ Some (plain_node node) → plain_node copy ≡ plain_node node → IsNodeOf i id copy
is_node_of i id node copy there same =
    let here : slice_get (nodes_of i) (place_of id) ≡ Some (plain_node copy) = there ∙ ap Some (sym same) in
    record {
      there = here;
      label = λ m h. let e = label_is (nodes_of i) i.graph (place_of id) (plain_node copy) here ∙ ap (option_map label_in) h in cc;
      parts = λ m h.
          let P : Option Meaning → Type 0 = λ o. IfSome o (λ m. all_found (meanings (nodes_of i)) (places_of (ids_of copy.parts)) ≡ Some (parts_in m)) in
          subst P h (parts_are (nodes_of i) i.graph (place_of id) (plain_node copy) here);
      earlier = parts_before (nodes_of i) i.graph (place_of id) (plain_node copy) here;
    }
