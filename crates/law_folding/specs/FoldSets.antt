-- The folding of the calls on sets: the cases of each in the order in which they are tried.
use Rattle.std.specs.Prelude.{Bool, cond, ◌&&◌, ◌||◌, List, filter, Option, Some, None}
use Rattle.std.specs.List.{list_all, list_any}
use Rattle.law_folding.specs.Applications.{truth_literal, true_term, false_term, set_member_of, set_subset_of, set_inter_of}
use Rattle.law_folding.specs.Parts.{elements_in, is_empty_set, is_set_literal}
use Rattle.law_terms.specs.Literals.{is_literal}
use Rattle.law_terms.specs.TermOrder.{term_eq}
use Rattle.law_terms.specs.TermSets.{set_term}
use Rattle.law_terms.specs.Plain.{PlainTerm, SetTerm, list_of_terms}

-- the term is one of a list, compared as a term: of two literals of one type this is so exactly where their values are one
abbrev pub is_among : List PlainTerm → PlainTerm → Bool
is_among ts t = list_any (term_eq t) ts

-- no element: false; two literals: whether the first is an element of the second
abbrev pub folded_set_member : (element set : PlainTerm) → PlainTerm
folded_set_member t u =
    cond (is_empty_set u) false_term
    (cond (is_literal t && is_set_literal u) (truth_literal (is_among (elements_in u) t)) (set_member_of t u))

-- equal terms, or no element in the first: true; two literals: whether the first's elements are all elements of the second
abbrev pub folded_set_subset : PlainTerm → PlainTerm → PlainTerm
folded_set_subset t u =
    cond (term_eq t u || is_empty_set t) true_term
    (cond (is_set_literal t && is_set_literal u) (truth_literal (list_all (is_among (elements_in u)) (elements_in t))) (set_subset_of t u))

-- the set of the first's elements that are elements of the second, with the first's element type
abbrev pub common_set : PlainTerm → PlainTerm → PlainTerm
common_set (SetTerm ty ts) u = set_term ty (filter (is_among (elements_in u)) (list_of_terms ts))
common_set t u = t

-- equal terms, or no element in the first: the first; no element in the second: that; two literals: what they have in common
abbrev pub folded_set_inter : PlainTerm → PlainTerm → PlainTerm
folded_set_inter t u =
    cond (term_eq t u || is_empty_set t) t
    (cond (is_empty_set u) u
    (cond (is_set_literal t && is_set_literal u) (common_set t u) (set_inter_of t u)))

-- whether a set is empty, where its form tells: a set given by its elements
abbrev pub empty_by_form : PlainTerm → Option PlainTerm
empty_by_form (SetTerm ty ts) = Some (truth_literal (is_empty_set (SetTerm ty ts)))
empty_by_form t = None
