-- Laws of interners: each of their numbers stands for something, no two for the same, and a term that one stands for is formed.
use Rattle.std.specs.Prelude.{◌≡◌, ◌<◌, Some, length}
use Rattle.law_terms.specs.Formed.{IsFormed}
use Rattle.law_terms.specs.Plain.{PlainTerm}
use Rattle.law_terms.specs.Nodes.{Meaning, TermMeaning}
use Rattle.smt_nodes.specs.Interned.{meaning_in, nodes_of}
use Rattle.smt_nodes.specs.View.{place_of}
use Rattle.smt_nodes.specs.declared.id.NodeId.{NodeId}
use Rattle.smt_nodes.specs.declared.interner.Interner.{Interner}

-- two numbers that stand for one thing are one number
abbrev pub NumbersDiffer : Type 0
NumbersDiffer = (i : Interner) (a b : NodeId) (m : Meaning) → meaning_in i a ≡ Some m → meaning_in i b ≡ Some m → a ≡ b

-- a number whose place is below the length stands for something
abbrev pub NumbersAreMeant : Type 0
NumbersAreMeant = (i : Interner) (id : NodeId) → place_of id < length (nodes_of i) → (m : Meaning) × (meaning_in i id ≡ Some m)

-- a term that a number stands for is formed
abbrev pub NodesAreFormed : Type 0
NodesAreFormed = (i : Interner) (id : NodeId) (t : PlainTerm) → meaning_in i id ≡ Some (TermMeaning t) → IsFormed t
