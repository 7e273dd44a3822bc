-- How many look-ups of nodes writing takes: as many as the graph that is written has edges, and one for each `record.get`.
use Rattle.std.specs.Prelude.{ℕ, suc, ◌≡◌, ◌≤◌, ◌+◌, ◌*◌, ◌&&◌, Bool, true, false, IsTrue, List, [], ◌∷◌, Some, is_none, length, slice_get}
use Rattle.std.specs.List.{AllByRecursion}
use Rattle.law_terms.specs.Plain.{RecordGetOp}
use Rattle.law_terms.specs.Nodes.{PlainLabel, ApplicationLabel, PlainNode}
use Rattle.smt_nodes.specs.Interned.{nodes_of}
use Rattle.smt_nodes.specs.declared.interner.Interner.{Interner}
use Rattle.smt_spelling.specs.Texts.{kept_at}
use Rattle.smt_spelling.specs.declared.node_names.NodeNames.{NodeNames}

-- A set of nodes, by their places, that has the parts of its nodes too: what is written is such a set.
abbrev pub IsClosed : List PlainNode → (ℕ → Bool) → Type 0
IsClosed nodes has =
    (place : ℕ) (node : PlainNode) → slice_get nodes place ≡ Some node → IsTrue (has place) →
    AllByRecursion (λ part. IsTrue (has part)) node.parts

-- the look-up of a record's type, by whose name an attribute is selected
abbrev pub selections : PlainLabel → ℕ
selections (ApplicationLabel (RecordGetOp a)) = 1
selections l = 0

-- how many look-ups a node takes: one for each of its parts, and one for a selection
abbrev pub look_ups_of : PlainNode → ℕ
look_ups_of node = length node.parts + selections node.label

-- the same of a node that is of a set; and else none
abbrev pub look_ups_at : (is_there : Bool) → PlainNode → ℕ
look_ups_at true node = look_ups_of node
look_ups_at false node = 0

-- how many the nodes of a set take together; the first node of the list stands at this place
abbrev pub look_ups_from : (ℕ → Bool) → (place : ℕ) → List PlainNode → ℕ
look_ups_from has place [] = 0
look_ups_from has place (node ∷ nodes) = look_ups_at (has place) node + look_ups_from has (suc place) nodes

-- how many look-ups the nodes of a set take together
abbrev pub look_ups : (ℕ → Bool) → List PlainNode → ℕ
look_ups has nodes = look_ups_from has 0 nodes

-- how many edges a node that is of a set has, one to each of its parts; and else none
abbrev pub edges_at : (is_there : Bool) → PlainNode → ℕ
edges_at true node = length node.parts
edges_at false node = 0

-- how many the nodes of a set have together; the first node of the list stands at this place
abbrev pub edges_from : (ℕ → Bool) → (place : ℕ) → List PlainNode → ℕ
edges_from has place [] = 0
edges_from has place (node ∷ nodes) = edges_at (has place) node + edges_from has (suc place) nodes

-- how many edges the nodes of a set have together
abbrev pub edges : (ℕ → Bool) → List PlainNode → ℕ
edges has nodes = edges_from has 0 nodes

-- Writing takes at most two look-ups for each edge: of the nodes of an interner each `record.get` has a part, its type, at least.
abbrev pub LookUpsByEdges : Type 0
LookUpsByEdges = (i : Interner) (has : ℕ → Bool) → look_ups has (nodes_of i) ≤ 2 * edges has (nodes_of i)

-- how many look-ups the nodes of a set take together that have no text yet
abbrev pub look_ups_left : (ℕ → Bool) → Interner → NodeNames → ℕ
look_ups_left has nodes names = look_ups (λ place. has place && is_none (kept_at names.texts.items place)) (nodes_of nodes)
