-- Which nodes have texts beside one that has one: its parts.
use Rattle.std.specs.Prelude.{ℕ, ◌≡◌, Bool, true, IsTrue, List, ◌∷◌, Option, Some, is_some}
use Rattle.std.specs.List.{AllByRecursion}
use Rattle.law_terms.specs.Nodes.{Meaning, TermMeaning}
use Rattle.law_terms.specs.Parts.{parts_in}
use Rattle.law_terms.specs.Typing.{typed}
use Rattle.smt_nodes.specs.Interned.{meaning_in}
use Rattle.smt_nodes.specs.View.{place_of}
use Rattle.smt_nodes.specs.declared.id.NodeId.{NodeId}
use Rattle.smt_nodes.specs.declared.interner.Interner.{Interner}
use Rattle.smt_spelling.specs.NodeTexts.{kept_below, kept_now}
use Rattle.smt_spelling.specs.declared.node_names.NodeNames.{NodeNames}

-- what is meant is a type, a function, or a term that is typed
abbrev pub is_typed : Meaning → Bool
is_typed (TermMeaning t) = typed t
is_typed m = true

-- A number stands for this, and has a text.
abbrev pub IsWritten : Interner → (ℕ → Option (List ℕ)) → Meaning → Type 0
IsWritten nodes texts m = (id : NodeId) × (meaning_in nodes id ≡ Some m) × IsTrue (is_some (texts (place_of id)))

-- A number whose meaning has parts may have a text: where the meaning is typed, its parts are written.
abbrev pub HasWrittenParts : Interner → (ℕ → Option (List ℕ)) → NodeId → Type 0
HasWrittenParts nodes texts id =
    (m : Meaning) → meaning_in nodes id ≡ Some m → IsTrue (is_typed m) → AllByRecursion (IsWritten nodes texts) (parts_in m)

-- Each number that has a text has written parts. So what is typed and has a text leads to what has texts alone.
abbrev pub HaveWrittenParts : Interner → (ℕ → Option (List ℕ)) → Type 0
HaveWrittenParts nodes texts = (id : NodeId) → IsTrue (is_some (texts (place_of id))) → HasWrittenParts nodes texts id

-- So it is now, and so it was at the moment of each open push.
abbrev pub AreWhole : Interner → NodeNames → Type 0
AreWhole nodes names = AllByRecursion (λ k. HaveWrittenParts nodes k.texts) (kept_now names ∷ kept_below names)
