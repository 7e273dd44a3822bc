-- Sets of terms, from lists of terms in any order.
use Rattle.std.specs.Prelude.{◌↔◌, Contains, IsTrue, List}
use Rattle.law_terms.specs.TermOrder.{term_cmp}
use Rattle.law_terms.specs.ValueOrder.{ascends, sorted}
use Rattle.law_terms.specs.Plain.{PlainType, PlainTerm, SetTerm, terms}

-- the terms in order, each once
abbrev pub sorted_terms : List PlainTerm → List PlainTerm
sorted_terms ts = sorted term_cmp ts

-- the set of the terms of a list, with this element type
abbrev pub set_term : PlainType → List PlainTerm → PlainTerm
set_term element ts = SetTerm element (terms (sorted_terms ts))

-- the terms of a list in order ascend, and are those of the list
abbrev pub SortedTermsAscend : Type 0
SortedTermsAscend =
    (ts : List PlainTerm) → IsTrue (ascends term_cmp (sorted_terms ts)) × ((t : PlainTerm) → Contains (sorted_terms ts) t ↔ Contains ts t)
