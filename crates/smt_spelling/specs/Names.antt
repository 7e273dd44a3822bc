-- The tables of names that the texts of nodes are.
use Rattle.std.specs.Prelude.{ℕ, ◌≡◌, ◌≤◌, false, List, Some, length}
use Rattle.std.specs.List.{AllZip}
use Rattle.std.specs.Vec.{vec_capacity}
use Rattle.law_terms.specs.TypeValues.{Enums}
use Rattle.smt_term.specs.Enums.{enums_of}
use Rattle.law_terms.specs.Nodes.{Meaning}
use Rattle.smt_nodes.specs.Interned.{meaning_in, nodes_of}
use Rattle.smt_nodes.specs.View.{place_of}
use Rattle.smt_nodes.specs.declared.id.NodeId.{NodeId}
use Rattle.smt_nodes.specs.declared.interner.Interner.{Interner}
use Rattle.law_lines.specs.NameTables.{Tables}
use Rattle.smt_spelling.specs.NodeLines.{has_entry, name_in}
use Rattle.smt_spelling.specs.NodeTexts.{kept_below, kept_now, HasName, HasNameBy, IsText, Kept, KeepsRoom}
use Rattle.smt_spelling.specs.declared.names.Names.{Names}
use Rattle.smt_spelling.specs.declared.node_names.NodeNames.{NodeNames}

-- the enum types over which nodes have these texts
abbrev pub enums_under : Names → Enums
enums_under n = enums_of n.enums.now

-- the nodes that have these texts
abbrev pub nodes_under : Names → Interner
nodes_under n = n.nodes

-- the texts of the nodes
abbrev pub texts_under : Names → NodeNames
texts_under n = n.texts

-- The names are these tables: each type, each function and each term has the name that it has there, or none, and there are as many
-- names of each kind.
pub record AreTables (n : Names) (s : Tables) : Type 0 where
  pub names : (m : Meaning) → HasName n.nodes n.texts m (name_in s m)
  pub terms : n.texts.terms ≡ length s.terms
  pub types : n.texts.types ≡ length s.types
  pub functions : n.texts.functions ≡ length s.functions

-- What is kept are these tables: each type, each function and each term has the name that it has there, or none, and there are as many
-- names of each kind; and what has no entry has its stated text, where one is kept: as a set type of entities, whose text has a name of
-- the tables in it.
pub record AreKept (enums : Enums) (nodes : Interner) (k : Kept) (s : Tables) : Type 0 where
  pub names : (m : Meaning) → HasNameBy nodes k.texts m (name_in s m)
  pub inline : (id : NodeId) (m : Meaning) (text : List ℕ) → meaning_in nodes id ≡ Some m → has_entry m ≡ false →
      k.texts (place_of id) ≡ Some text → IsText enums s m text
  pub terms : k.terms ≡ length s.terms
  pub types : k.types ≡ length s.types
  pub functions : k.functions ≡ length s.functions

-- The names are these tables, and what has no entry has its stated text, where one is kept.
abbrev pub KeepTables : Names → Tables → Type 0
KeepTables n s = AreKept (enums_under n) n.nodes (kept_now n.texts) s

-- At the moment of each push that is open, the last first, the names were these tables.
abbrev pub KeepLevels : Names → List Tables → Type 0
KeepLevels n below = AllZip (AreKept (enums_under n) n.nodes) (kept_below n.texts) below

-- how many pushes are open
abbrev pub levels_under : Names → ℕ
levels_under n = length n.texts.marks.items

-- Each node has room for its text: there are as many places for texts as nodes, and room in the order of keeping for as many.
pub record HasRoom (n : Names) : Type 0 where
  pub places : length n.texts.texts.items ≡ length (nodes_of n.nodes)
  pub order : length n.texts.texts.items ≤ vec_capacity n.texts.order

-- The nodes and the enum types are what they were, and so are the room for texts and what was kept at the moment of each open push.
pub record StandsOn (old new : Names) : Type 0 where
  pub enums : enums_under new ≡ enums_under old
  pub nodes : new.nodes ≡ old.nodes
  pub room : KeepsRoom old.texts new.texts
  pub levels : kept_below new.texts ≡ kept_below old.texts
