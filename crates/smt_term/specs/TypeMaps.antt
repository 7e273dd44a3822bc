-- What maps of attributes and types keep of the pairs that they are made of.
use Rattle.std.specs.Prelude.{ℕ, List, bytes_eq}
use Rattle.law_terms.specs.Plain.{PlainType}
use Rattle.law_terms.specs.ValueOrder.{text_cmp}
use Rattle.smt_term.specs.SortedPairs.{AreLastPairs, sorted_pairs}

-- in order, pairs of attributes and types are the last pairs of those that were given
abbrev pub TypePairsAreSorted : Type 0
TypePairsAreSorted = (ps : List (List ℕ × PlainType)) → AreLastPairs text_cmp bytes_eq ps (sorted_pairs text_cmp ps)
