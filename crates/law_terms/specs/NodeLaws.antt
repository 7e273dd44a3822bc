-- Laws of nodes.
use Rattle.std.specs.Prelude.{◌≡◌, ℕ, ◌++◌, ◌<◌, Contains, IsTrue, List, [], ◌∷◌, Some, is_some, length}
use Rattle.law_terms.specs.Fits.{fits}
use Rattle.law_terms.specs.Graphs.{IsGraph}
use Rattle.law_terms.specs.Meanings.{meaning_at, meaning_of, meanings, stands_for}
use Rattle.law_terms.specs.Nodes.{Meaning, PlainLabel, PlainNode}
use Rattle.law_terms.specs.Parts.{label_in, parts_in}

-- a node fits exactly where it has a meaning
abbrev pub FittingNodesHaveMeanings : Type 0
FittingNodesHaveMeanings = (ns : List PlainNode) (n : PlainNode) → is_some (meaning_of (meanings ns) n) ≡ fits ns n

-- every place of a graph has a meaning
abbrev pub PlacesHaveMeanings : Type 0
PlacesHaveMeanings = (ns : List PlainNode) → IsGraph ns → (i : ℕ) → i < length ns → (m : Meaning) × (meaning_at ns i ≡ Some m)

-- no two places of a graph have one meaning
abbrev pub PlacesDiffer : Type 0
PlacesDiffer = (ns : List PlainNode) → IsGraph ns → (i j : ℕ) (m : Meaning) → meaning_at ns i ≡ Some m → meaning_at ns j ≡ Some m → i ≡ j

-- one node more leaves every older meaning
abbrev pub OlderMeaningsStay : Type 0
OlderMeaningsStay = (ns : List PlainNode) (n : PlainNode) (i : ℕ) → i < length ns → meaning_at (ns ++ n ∷ []) i ≡ meaning_at ns i

-- the last node has the meaning that it has by the nodes before it
abbrev pub TheLastHasItsMeaning : Type 0
TheLastHasItsMeaning = (ns : List PlainNode) (n : PlainNode) → meaning_at (ns ++ n ∷ []) (length ns) ≡ meaning_of (meanings ns) n

-- what something stands for determines its label and what its parts stand for
abbrev pub MeaningsDetermineParts : Type 0
MeaningsDetermineParts =
    (l : PlainLabel) (ms : List Meaning) (m : Meaning) → stands_for l ms ≡ Some m → (l ≡ label_in m) × (ms ≡ parts_in m)

-- the list without nodes is a graph, and so is a graph with one node more that fits and is new
abbrev pub GraphsGrow : Type 0
GraphsGrow =
    IsGraph [] × ((ns : List PlainNode) (n : PlainNode) → IsGraph ns → IsTrue (fits ns n) → ¬ Contains ns n → IsGraph (ns ++ n ∷ []))
