-- What the nodes of an interner stand for.
use Rattle.std.specs.Prelude.{◌≡◌, ◌⊎◌, ◌++◌, List, [], ◌∷◌, map, Option, Some}
use Rattle.law_terms.specs.Plain.{PlainTerm}
use Rattle.law_terms.specs.Meanings.{all_found, meaning_at, meaning_of, meanings}
use Rattle.law_terms.specs.Nodes.{Meaning, PlainNode, TermMeaning}
use Rattle.smt_nodes.specs.View.{place_of, places_of, plain_node}
use Rattle.smt_nodes.specs.declared.id.NodeId.{NodeId}
use Rattle.smt_nodes.specs.declared.interner.Interner.{Interner}

-- the nodes of an interner, in the order of their numbers
abbrev pub nodes_of : Interner → List PlainNode
nodes_of i = map plain_node i.table.nodes.items

-- what a number stands for: a type, a function or a term, or nothing where the interner has no such number
abbrev pub meaning_in : Interner → NodeId → Option Meaning
meaning_in i id = meaning_at (nodes_of i) (place_of id)

-- the number stands for this term
abbrev pub IsNumber : Interner → NodeId → PlainTerm → Type 0
IsNumber i id t = meaning_in i id ≡ Some (TermMeaning t)

-- what one more node would stand for, which need not be there
abbrev pub meaning_for : Interner → PlainNode → Option Meaning
meaning_for i n = meaning_of (meanings (nodes_of i)) n

-- every number that stands for something stands for that still
abbrev pub KeepsMeanings : Interner → Interner → Type 0
KeepsMeanings i j = (id : NodeId) (m : Meaning) → meaning_in i id ≡ Some m → meaning_in j id ≡ Some m

-- some number stands for what the node would stand for
abbrev pub IsKnown : Interner → PlainNode → Type 0
IsKnown i n = (id : NodeId) × (m : Meaning) × (meaning_in i id ≡ Some m) × (meaning_for i n ≡ Some m)

-- there is one node more, this one, where no number stood for what it stands for; and else the nodes are what they were
abbrev pub GrowsFor : Interner → Interner → PlainNode → Type 0
GrowsFor i j n = ((nodes_of j ≡ nodes_of i ++ n ∷ []) × ¬ IsKnown i n) ⊎ ((nodes_of j ≡ nodes_of i) × IsKnown i n)

-- the number stands for something: it is one of the interner's
abbrev pub IsMeant : Interner → NodeId → Type 0
IsMeant i id = (m : Meaning) × (meaning_in i id ≡ Some m)

-- these numbers stand for these terms, in order, one for each
abbrev pub StandFor : Interner → List NodeId → List PlainTerm → Type 0
StandFor i ids ts = all_found (meanings (nodes_of i)) (places_of ids) ≡ Some (map TermMeaning ts)
