-- What maps of attributes say: their pairs in order.
use Rattle.std.specs.Prelude.{ℕ, List, bytes_eq}
use Rattle.law_terms.specs.Plain.{PlainTerm}
use Rattle.law_terms.specs.ValueOrder.{text_cmp}
use Rattle.smt_term.specs.SortedPairs.{AreLastPairs, sorted_pairs}
pub use Rattle.smt_term.specs.View.{plain_attribute, plain_attributes, plain_field, plain_fields}
pub use Rattle.smt_term.specs.TypeMaps.{TypePairsAreSorted}

-- in order, pairs of attributes and terms are the last pairs of those that were given
abbrev pub FieldPairsAreSorted : Type 0
FieldPairsAreSorted = (ps : List (List ℕ × PlainTerm)) → AreLastPairs text_cmp bytes_eq ps (sorted_pairs text_cmp ps)
