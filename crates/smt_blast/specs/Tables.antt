-- The bits of old nodes, in the order of their places.
use Rattle.std.specs.Prelude.{◌≡◌, ◌≤◌, ◌<◌, ℕ, List, [], Bool, Option, Some, None, length, map, slice_get}
use Rattle.law_blasting.specs.Blasted.{Variables, blasted}
use Rattle.law_terms.specs.Nodes.{TermMeaning}
use Rattle.law_terms.specs.Plain.{BoolLiteral, LiteralTerm, PlainTerm}
use Rattle.smt_blast.specs.Marks.{mark_in, IsSeen}
use Rattle.smt_blast.specs.Standing.{AreBits}
use Rattle.smt_blast.specs.declared.marks.Seen.{Seen}
use Rattle.smt_nodes.specs.Interned.{meaning_in}
use Rattle.smt_nodes.specs.View.{ids_of, place_of}
use Rattle.smt_nodes.specs.declared.id.IdList.{IdList}
use Rattle.smt_nodes.specs.declared.id.NodeId.{NodeId}
use Rattle.smt_nodes.specs.declared.interner.Interner.{Interner}

-- the numbers at a place of a table, none past its end
abbrev pub bits_in : List IdList → ℕ → List NodeId
bits_in table place = elim (slice_get table place) [ None ↦ [] | Some bits ↦ ids_of bits ]

-- Boolean literals of truths
abbrev pub literals : List Bool → List PlainTerm
literals bs = map (λ b. LiteralTerm (BoolLiteral b)) bs

-- the table has at a node the numbers of these terms, which are no more than the greatest width
pub record HasBits (i : Interner) (table : List IdList) (id : NodeId) (us : List PlainTerm) : Type 0 where
  pub bits : AreBits i (bits_in table (place_of id)) us
  pub few : length us ≤ 128

-- the table has at each old node with a mark, as far as it goes, the blasted terms of the node's term
abbrev pub IsTable : Interner → List (Option Seen) → Variables → Interner → List IdList → Type 0
IsTable old marks vs i table =
    (id : NodeId) (s : Seen) (t : PlainTerm) → place_of id < length table → mark_in marks (place_of id) ≡ Some s →
    meaning_in old id ≡ Some (TermMeaning t) → HasBits i table id (blasted vs t)

-- the mark that the next entry of a table is for is one of these marks, at the place of the entry
abbrev pub IsNext : Interner → List (Option Seen) → Variables → List IdList → Option Seen → Type 0
IsNext old marks vs table mark = (seen : Seen) → mark ≡ Some seen → IsSeen old marks vs seen.id seen × (length table ≡ place_of seen.id)

-- the table goes as far as the marks
pub record IsWholeTable (old : Interner) (marks : List (Option Seen)) (vs : Variables) (i : Interner) (table : List IdList) : Type 0 where
  pub entries : IsTable old marks vs i table
  pub whole : length table ≡ length marks
