-- What a walk over old terms answers.
use Rattle.std.specs.Prelude.{◌≡◌, List, Result, Ok, Err}
use Rattle.std.specs.List.{AllByRecursion}
use Rattle.law_blasting.specs.Blasted.{Variables}
use Rattle.law_blasting.specs.Refusals.{Refusal, operator_refusal, UnsupportedOperator, UnsupportedType as TypeRefusal}
use Rattle.law_blasting.specs.Numbering.{unless_refused}
use Rattle.law_terms.specs.Plain.{PlainOp}
use Rattle.smt_nodes.specs.declared.id.NodeId.{NodeId}
use Rattle.smt_nodes.specs.declared.interner.Interner.{Interner}
use Rattle.smt_term.specs.View.{plain_op, plain_type}
use Rattle.smt_blast.specs.Marks.{HasSeen, IsMarked, KeepsMarks}
use Rattle.smt_blast.specs.declared.error.BlastError.{BlastError}
use Rattle.smt_blast.specs.declared.error.BlastError.TheVariants.{Unsupported, UnsupportedType, Memory}
use Rattle.smt_blast.specs.declared.visit.Walk.{Walk}

-- a walk has seen these variables
abbrev pub IsWalk : Interner → Walk → Variables → Type 0
IsWalk old w vs = HasSeen old w.marks.items w.variables.items vs

-- what a walk over an application answers, by that over its arguments: the refusal of its operator comes behind theirs
abbrev pub behind_parts : PlainOp → Result Variables Refusal → Result Variables Refusal
behind_parts o (Ok ws) = unless_refused (operator_refusal o) ws
behind_parts o (Err r) = Err r

-- an error is this refusal, or want of memory
abbrev pub Refuses : Result Variables Refusal → BlastError → Type 0
Refuses r (Unsupported op) = r ≡ Err (UnsupportedOperator (plain_op op))
Refuses r (UnsupportedType ty) = r ≡ Err (TypeRefusal (plain_type ty))
Refuses r Memory = Unit {0}

-- What a walk over some of the old nodes answers, where the stated walk is this: it has seen the stated variables, and has marks of these
-- nodes beside those that it had; or it has the stated refusal.
abbrev pub Walks : Interner → Walk → Walk → Result Variables Refusal → List NodeId → Result (Unit {0}) BlastError → Type 0
Walks old w x r ids (Ok _) =
    (ws : Variables) × (r ≡ Ok ws) × IsWalk old x ws × KeepsMarks w.marks.items x.marks.items × AllByRecursion (IsMarked x.marks.items) ids
Walks old w x r ids (Err e) = Refuses r e
