-- Nodes of sums.
use Rattle.std.specs.Prelude.{◌≡◌, List, Some}
use Rattle.law_terms.specs.Nodes.{PlainLabel, PlainNode, TermMeaning, TypeMeaning}
use Rattle.law_terms.specs.Plain.{BitVecType, PlainTerm}
use Rattle.law_terms.specs.Typing.{Typed}
use Rattle.smt_nodes.specs.Interned.{meaning_in}
use Rattle.smt_nodes.specs.View.{places_of}
use Rattle.smt_nodes.specs.declared.id.NodeId.{NodeId}
use Rattle.smt_nodes.specs.declared.interner.Interner.{Interner}

-- the node of a label and these parts
abbrev pub node_of : PlainLabel → List NodeId → PlainNode
node_of label parts = record { label = label; parts = places_of parts }

-- the numbers of a sum stand for the type of bitvectors of 64 bits, and for a term that is typed, of that type
pub record IsSum (nodes : Interner) (ty id : NodeId) : Type 0 where
  pub type : meaning_in nodes ty ≡ Some (TypeMeaning (BitVecType 64))
  pub term : PlainTerm
  pub stands : meaning_in nodes id ≡ Some (TermMeaning term)
  pub typed : Typed term (BitVecType 64)
