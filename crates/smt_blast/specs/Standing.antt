-- For which terms new nodes stand, and what a call leaves of them.
use Rattle.std.specs.Prelude.{◌≡◌, ◌≤◌, ◌+◌, ℕ, Bool, false, List, Option, Some, length}
use Rattle.std.specs.Bool.{beq}
use Rattle.law_terms.specs.Nodes.{Meaning, TermMeaning}
use Rattle.law_terms.specs.Plain.{BoolLiteral, LiteralTerm, PlainTerm}
use Rattle.law_blasting.specs.Passing.{Related}
use Rattle.smt_nodes.specs.Interned.{meaning_in, nodes_of, KeepsMeanings}
use Rattle.smt_nodes.specs.declared.id.NodeId.{NodeId}
use Rattle.smt_nodes.specs.declared.interner.Interner.{Interner}

-- a number stands for this term
pub record Stands (i : Interner) (id : NodeId) (u : PlainTerm) : Type 0 where
  pub means : meaning_in i id ≡ Some (TermMeaning u)

-- numbers stand for these terms, in order, one for each
abbrev pub AreBits : Interner → List NodeId → List PlainTerm → Type 0
AreBits i ids us = Related (Stands i) ids us

-- all numbers stand for what they stood for, and there are at most so many nodes more
pub record Grows (i j : Interner) (k : ℕ) : Type 0 where
  pub kept : KeepsMeanings i j
  pub few : length (nodes_of j) ≤ length (nodes_of i) + k

-- what a node stands for is this Boolean literal
abbrev pub is_truth_at : Bool → Option Meaning → Bool
is_truth_at b (Some (TermMeaning (LiteralTerm (BoolLiteral c)))) = beq b c
is_truth_at b m = false
