use Rattle.std.proofs.Common.{◌≡◌, ◌<◌, Some}
use Rattle.smt_nodes.specs.Interned.{meaning_in}
use Rattle.smt_nodes.specs.Subject.{meaning_of}
use Rattle.smt_nodes.specs.View.{place_of}
use Rattle.smt_nodes.specs.declared.id.NodeId.{NodeId}
use Rattle.smt_nodes.proofs.interner.Interner.find_subject.Given as goal

-- no number before stands for the subject
abbrev pub invariant-loop-place : goal.invariant-loop-place
invariant-loop-place l = (id : NodeId) → place_of id < l.place → meaning_in l.self id ≡ Some (meaning_of l.subject) → ⊥
