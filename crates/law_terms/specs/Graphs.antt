-- Lists of nodes that fit.
use Rattle.std.specs.Prelude.{◌≡◌, ℕ, IsTrue, List, Some, slice_get, take}
use Rattle.law_terms.specs.Fits.{fits}
use Rattle.law_terms.specs.Nodes.{PlainNode}

-- A list of nodes without repeats that each fit the nodes before them.
pub record IsGraph (ns : List PlainNode) : Type 0 where
  pub fit : (i : ℕ) (n : PlainNode) → slice_get ns i ≡ Some n → IsTrue (fits (take i ns) n)
  pub differ : (i j : ℕ) (n : PlainNode) → slice_get ns i ≡ Some n → slice_get ns j ≡ Some n → i ≡ j
