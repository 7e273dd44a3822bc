-- What marks at old nodes say.
use Rattle.std.specs.Prelude.{◌≡◌, ℕ, IsTrue, List, Option, None, Some, length, option_and_then, slice_get}
use Rattle.std.specs.List.{AllByRecursion}
use Rattle.law_terms.specs.Nodes.{TermMeaning}
use Rattle.law_terms.specs.Plain.{PlainOp, PlainTerm, PlainTerms, PlainType, Application, VariableTerm, list_of_terms}
use Rattle.law_terms.specs.Reached.{reached_variable}
use Rattle.law_terms.specs.Typing.{typed}
use Rattle.law_blasting.specs.Blasted.{AreNumbered, Variables, number_from}
use Rattle.law_blasting.specs.Passing.{Related}
use Rattle.law_blasting.specs.Refusals.{term_refusal}
use Rattle.smt_nodes.specs.Interned.{meaning_in, nodes_of}
use Rattle.smt_nodes.specs.View.{place_of}
use Rattle.smt_nodes.specs.declared.id.NodeId.{NodeId}
use Rattle.smt_nodes.specs.declared.interner.Interner.{Interner}
use Rattle.smt_blast.specs.declared.marks.Seen.{Seen}

-- the mark at a place of a list of marks, none past the end
abbrev pub mark_in : List (Option Seen) → ℕ → Option Seen
mark_in marks i = option_and_then (λ m. m) (slice_get marks i)

-- a node has a mark
abbrev pub IsMarked : List (Option Seen) → NodeId → Type 0
IsMarked marks id = (s : Seen) × (mark_in marks (place_of id) ≡ Some s)

-- the node that stands for this term has a mark
abbrev pub HasMark : Interner → List (Option Seen) → PlainTerm → Type 0
HasMark old marks u = (id : NodeId) × (meaning_in old id ≡ Some (TermMeaning u)) × IsMarked marks id

-- A mark at a node: the node's term is typed and has no refusal, its variables are among these, a variable has the number of the mark,
-- and the arguments of an application have marks.
pub record IsSeen (old : Interner) (marks : List (Option Seen)) (vs : Variables) (id : NodeId) (s : Seen) : Type 0 where
  pub here : s.id ≡ id
  pub term : PlainTerm
  pub means : meaning_in old id ≡ Some (TermMeaning term)
  pub typed : IsTrue (typed term)
  pub taken : term_refusal term ≡ None
  pub numbered : AreNumbered vs term
  pub own : (v : List ℕ × PlainType) → reached_variable term ≡ Some v → s.number ≡ number_from 0 vs v
  pub parts : (o : PlainOp) (ts : PlainTerms) (t : PlainType) → term ≡ Application o ts t →
      AllByRecursion (HasMark old marks) (list_of_terms ts)

-- a number stands for this variable
abbrev pub IsVariable : Interner → NodeId → (List ℕ × PlainType) → Type 0
IsVariable old id v = meaning_in old id ≡ Some (TermMeaning (VariableTerm v.0 v.1))

-- What a walk has seen: these variables, in the order in which it met them, each of which has a mark, and what each mark says.
pub record HasSeen (old : Interner) (marks : List (Option Seen)) (ids : List NodeId) (vs : Variables) : Type 0 where
  pub places : length marks ≡ length (nodes_of old)
  pub variables : Related (IsVariable old) ids vs
  pub met : AllByRecursion (IsMarked marks) ids
  pub sound : (id : NodeId) (s : Seen) → mark_in marks (place_of id) ≡ Some s → IsSeen old marks vs id s

-- each node with a mark has one still
abbrev pub KeepsMarks : List (Option Seen) → List (Option Seen) → Type 0
KeepsMarks ms ns = (id : NodeId) → IsMarked ms id → IsMarked ns id
