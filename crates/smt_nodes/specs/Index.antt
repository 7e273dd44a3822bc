-- A table that finds each node of its list.
use Rattle.std.specs.Prelude.{◌≡◌, Bool, false, bytes_eq, cond, Contains, IsTrue, List, Option, None, Some, map, slice_get}
use Rattle.std.specs.BTreeMap.{BTreeMap, get}
use Rattle.std.specs.Option.{option_map_or}
use Rattle.std.specs.Ordering.{is_eq}
use Rattle.law_terms.specs.Nodes.{PlainNode}
use Rattle.smt_bits.specs.contracts.bitvec.BitVecOrd.TheImpl as bits_order
use Rattle.smt_bits.specs.declared.bitvec.BitVec.{BitVec}
use Rattle.smt_term.specs.declared.term.TermPrim.TheVariants.{Bitvec}
use Rattle.smt_nodes.specs.View.{ids_of, place_of, places_of, plain_label, plain_node}
use Rattle.smt_nodes.specs.contracts.node.LabelOrd.TheImpl as label_order
use Rattle.smt_nodes.specs.contracts.table.KeyOrd.TheImpl as key_order
use Rattle.smt_nodes.specs.declared.id.NodeId.{NodeId}
use Rattle.smt_nodes.specs.declared.node.Label.{Label}
use Rattle.smt_nodes.specs.declared.node.Label.TheVariants.{Prim}
use Rattle.smt_nodes.specs.declared.node.Node.{Node}
use Rattle.smt_nodes.specs.declared.table.Key.{Key}
use Rattle.smt_nodes.specs.declared.table.Table.{Table}

-- the bits of which a label is a literal
abbrev pub bits_of : Label → Option BitVec
bits_of (Prim (Bitvec b)) = Some b
bits_of l = None

-- the number that the one map finds for bits, or else the other one for the label
abbrev pub first_by : BTreeMap BitVec NodeId → BTreeMap Label NodeId → Label → Option BitVec → Option NodeId
first_by bits firsts l (Some b) = get bits_order.ghosts.cmp bits b
first_by bits firsts l None = get label_order.ghosts.cmp firsts l

-- the number that a label finds: that of the first node with the label
abbrev pub first_at : Table → Label → Option NodeId
first_at t l = first_by t.bits t.firsts l (bits_of l)

-- the number that a key finds: that of another node
abbrev pub id_at : Table → Key → Option NodeId
id_at t k = get key_order.ghosts.cmp t.ids k

-- what a node of this label and of these parts says
abbrev pub node_of : Label → List NodeId → PlainNode
node_of l parts = record { label = plain_label l; parts = places_of parts }

-- what the node at a number's place says
abbrev pub node_at : Table → NodeId → Option PlainNode
node_at t id = slice_get (map plain_node t.nodes.items) (place_of id)

-- a node stands there, and passes a test
abbrev pub passes_at : Table → NodeId → (Node → Bool) → Bool
passes_at t id test = option_map_or test (slice_get t.nodes.items (place_of id)) false

-- it has this label
abbrev pub has_label : Table → NodeId → Label → Bool
has_label t id l = passes_at t id (λ n. is_eq (label_order.ghosts.cmp n.label l))

-- it has the label of the node at another number's place
abbrev pub has_label_of : Table → NodeId → NodeId → Bool
has_label_of t id other = passes_at t other (λ n. has_label t id n.label)

-- it has these parts
abbrev pub has_parts : Table → NodeId → List NodeId → Bool
has_parts t id parts = passes_at t id (λ n. bytes_eq (places_of (ids_of n.parts)) (places_of parts))

-- What a label finds is a node that has the label. What a key finds is a node that has the key's parts, and the label of the node
-- that the key names. What is not found is not in the list: no node has a label that finds nothing; and where a label finds a
-- node with other parts, and the key of that node and of the wanted parts finds nothing, then no node has the label and these
-- parts.
pub record IsIndex (t : Table) : Type 0 where
  pub firsts : (l : Label) (id : NodeId) → first_at t l ≡ Some id → IsTrue (has_label t id l)
  pub others : (k : Key) (id : NodeId) → id_at t k ≡ Some id → IsTrue (has_label_of t id k.first) × IsTrue (has_parts t id (ids_of k.parts))
  pub unlabelled : (l : Label) (parts : List NodeId) → first_at t l ≡ None → ¬ Contains (map plain_node t.nodes.items) (node_of l parts)
  pub missing : (l : Label) (k : Key) → first_at t l ≡ Some k.first → has_parts t k.first (ids_of k.parts) ≡ false → id_at t k ≡ None →
      ¬ Contains (map plain_node t.nodes.items) (node_of l (ids_of k.parts))

-- both find the same
abbrev pub FindsSame : Table → Table → Type 0
FindsSame t u = ((l : Label) → first_at u l ≡ first_at t l) × ((k : Key) → id_at u k ≡ id_at t k)

-- the second finds this number too, by the label of a node
abbrev pub FindsByLabel : Table → Table → Node → NodeId → Type 0
FindsByLabel t u n id =
    ((l : Label) → first_at u l ≡ cond (is_eq (label_order.ghosts.cmp n.label l)) (Some id) (first_at t l))
    × ((k : Key) → id_at u k ≡ id_at t k)

-- the second finds this number too, by the parts of a node and by the first node of its label
abbrev pub FindsByKey : Table → Table → NodeId → Node → NodeId → Type 0
FindsByKey t u f n id =
    ((l : Label) → first_at u l ≡ first_at t l) × (own : Key) × (own.first ≡ f) × (ids_of own.parts ≡ ids_of n.parts)
    × ((k : Key) → id_at u k ≡ cond (is_eq (key_order.ghosts.cmp own k)) (Some id) (id_at t k))
