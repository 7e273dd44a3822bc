use Rattle.std.proofs.Common.{drop, map}
use Rattle.smt_term.specs.View.{plain_field, plain_term}
use Rattle.smt_values.specs.PlainValues.{value_fields}
use Rattle.smt_values.specs.ValueView.{named_fields}
use Rattle.smt_values.proofs.Parts.{pair_in, term_of_element}
use Rattle.smt_values.proofs.Walks.{Walking}
use Rattle.smt_values.proofs.from_cedar.+term_of.Given as goal

abbrev pub invariant-element_terms-loop-v : goal.invariant-element_terms-loop-v
invariant-element_terms-loop-v l = Walking (term_of_element l.element) (map plain_term l.terms.items) (drop l.v-index l.elements) l.elements

abbrev pub invariant-attribute_terms-loop-name : goal.invariant-attribute_terms-loop-name
invariant-attribute_terms-loop-name l = Walking (pair_in (value_fields (named_fields l.fields))) (map plain_field l.pairs.items) (drop l.name-index l.name-items) l.name-items
