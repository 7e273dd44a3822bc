-- The elements of a typed set.
use Rattle.std.proofs.Common.{◌≡◌, true}
use Rattle.std.specs.Cmp.{first_so, second_so}
use Rattle.std.specs.List.{list_all}
use Rattle.law_terms.specs.Plain.{PlainType, PlainTerms, list_of_terms}
use Rattle.law_terms.specs.TermOrder.{term_cmp}
use Rattle.law_terms.specs.Types.{type_eq, types_of}
use Rattle.law_terms.specs.Typing.{are_elements}
use Rattle.law_terms.specs.ValueOrder.{ascends}

-- they are of the element type
pub typed_elements : (t : PlainType) (ts : PlainTerms) → are_elements t ts ≡ true → list_all (type_eq t) (types_of ts) ≡ true
typed_elements t ts h = first_so (list_all (type_eq t) (types_of ts)) (ascends term_cmp (list_of_terms ts)) h

-- they stand in the order of terms
pub elements_ascend : (t : PlainType) (ts : PlainTerms) → are_elements t ts ≡ true → ascends term_cmp (list_of_terms ts) ≡ true
elements_ascend t ts h = second_so (list_all (type_eq t) (types_of ts)) (ascends term_cmp (list_of_terms ts)) h
