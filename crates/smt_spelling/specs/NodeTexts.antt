-- The texts that are kept for nodes.
use Rattle.std.specs.Prelude.{ℕ, ◌≡◌, ◌≤◌, ◌<◌, IsTrue, List, Option, Some, None, is_none, is_some, length, map, reverse, slice_get}
use Rattle.std.specs.List.{AllByRecursion}
use Rattle.std.specs.Vec.{vec_capacity}
use Rattle.law_terms.specs.TypeValues.{Enums}
use Rattle.law_terms.specs.Meanings.{all_found, meanings}
use Rattle.law_terms.specs.Nodes.{Meaning}
use Rattle.law_terms.specs.Parts.{label_in, parts_in}
pub use Rattle.smt_nodes.specs.Interned.{StandFor}
use Rattle.smt_nodes.specs.Interned.{meaning_in, nodes_of}
use Rattle.smt_nodes.specs.View.{ids_of, place_of, places_of, plain_label, plain_node}
use Rattle.smt_nodes.specs.declared.id.NodeId.{NodeId}
use Rattle.smt_nodes.specs.declared.interner.Interner.{Interner}
use Rattle.smt_nodes.specs.declared.node.Node.{Node}
use Rattle.law_texts.specs.Reading.{Expression}
use Rattle.law_lines.specs.Lines.{made_of}
use Rattle.law_lines.specs.NameTables.{Tables}
use Rattle.law_lines.specs.Spelling.{spelled}
use Rattle.smt_spelling.specs.NodeLines.{encode_meaning, has_entry, meaning_fault, name_in}
use Rattle.smt_spelling.specs.Texts.{kept_at, kept_then}
use Rattle.smt_spelling.specs.declared.node_names.Mark.{Mark}
use Rattle.smt_spelling.specs.declared.node_names.NodeNames.{NodeNames}

-- the text that is kept for a node, None where none is kept
abbrev pub text_at : NodeNames → NodeId → Option (List ℕ)
text_at names id = kept_at names.texts.items (place_of id)

-- What is kept at one level: the text at each place, and how many names of each kind there are.
pub record Kept : Type 0 where
  pub texts : ℕ → Option (List ℕ)
  pub terms : ℕ
  pub types : ℕ
  pub functions : ℕ

-- what is kept now
abbrev pub kept_now : NodeNames → Kept
kept_now names = record { texts = kept_at names.texts.items; terms = names.terms; types = names.types; functions = names.functions }

-- what was kept at the moment of a push, from its mark: each text that is kept now and was not kept since, and as many names as then
abbrev pub kept_at_mark : NodeNames → Mark → Kept
kept_at_mark names mark =
    record {
      texts = kept_then (kept_at names.texts.items) (places_of names.order.items) mark.kept;
      terms = mark.terms;
      types = mark.types;
      functions = mark.functions;
    }

-- what was kept at the moment of each push that is open, the last first
abbrev pub kept_below : NodeNames → List Kept
kept_below names = map (kept_at_mark names) (reverse names.marks.items)

-- There is room for as many texts as before, both at their places and in the order in which they are kept.
pub record KeepsRoom (old new : NodeNames) : Type 0 where
  pub places : length new.texts.items ≡ length old.texts.items
  pub order : vec_capacity old.order ≤ vec_capacity new.order

-- No node has a text.
abbrev pub HasNoTexts : NodeNames → Type 0
HasNoTexts names = (id : NodeId) → IsTrue (is_none (text_at names id))

-- A type, a function or a term has this name, or none, by the texts at places: it has one where a number of the nodes stands for it, it
-- has an entry, and its number has a text.
abbrev pub HasNameBy : Interner → (ℕ → Option (List ℕ)) → Meaning → Option (List ℕ) → Type 0
HasNameBy nodes texts m (Some name) =
    (id : NodeId) × (meaning_in nodes id ≡ Some m) × IsTrue (has_entry m) × (texts (place_of id) ≡ Some name)
HasNameBy nodes texts m None = (id : NodeId) → meaning_in nodes id ≡ Some m → IsTrue (has_entry m) → texts (place_of id) ≡ None

-- the same by the texts that are kept now
abbrev pub HasName : Interner → NodeNames → Meaning → Option (List ℕ) → Type 0
HasName nodes names = HasNameBy nodes (kept_at names.texts.items)

-- The text stands for this where these tables are the names: it is stated without a line, and spelled so.
abbrev pub IsText : Enums → Tables → Meaning → List ℕ → Type 0
IsText enums s m text = (e : Expression) × (encode_meaning enums m s ≡ made_of e s) × (text ≡ spelled e)

-- The texts are those of these tables: a type, a function or a term that has an entry has its name there, and no text where it has
-- none; and each text that is kept is the one that stands for its node.
pub record AreTexts (enums : Enums) (s : Tables) (nodes : Interner) (names : NodeNames) : Type 0 where
  pub named : (id : NodeId) (m : Meaning) → meaning_in nodes id ≡ Some m → IsTrue (has_entry m) → text_at names id ≡ name_in s m
  pub stated : (id : NodeId) (m : Meaning) (text : List ℕ) → meaning_in nodes id ≡ Some m → text_at names id ≡ Some text →
      IsText enums s m text

-- The texts that are kept are of the nodes, and what has one has no fault.
pub record AreSound (enums : Enums) (nodes : Interner) (names : NodeNames) : Type 0 where
  pub within : length names.texts.items ≤ length (nodes_of nodes)
  pub sound : (id : NodeId) (m : Meaning) → meaning_in nodes id ≡ Some m → IsTrue (is_some (text_at names id)) →
      IsTrue (is_none (meaning_fault enums m))

-- The node of a number: its label and the numbers of its parts, which stand before it.
pub record IsNodeOf (nodes : Interner) (id : NodeId) (node : Node) : Type 0 where
  pub there : slice_get (nodes_of nodes) (place_of id) ≡ Some (plain_node node)
  pub label : (m : Meaning) → meaning_in nodes id ≡ Some m → plain_label node.label ≡ label_in m
  pub parts : (m : Meaning) → meaning_in nodes id ≡ Some m →
      all_found (meanings (nodes_of nodes)) (places_of (ids_of node.parts)) ≡ Some (parts_in m)
  pub earlier : AllByRecursion (λ place. place < place_of id) (places_of (ids_of node.parts))
