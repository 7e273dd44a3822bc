-- Whether the elements of a set are literals, one after another.
use Rattle.std.proofs.Common.{◌≡◌, ℕ, ◌+◌, ◌<◌, ◌≤◌, Bool, true, ◌&&◌, List, length, get_or, map, drop, sym, ap, ◌∙◌}
use Rattle.std.proofs.lemmas.List.{at_drop_more, at_drop_all}
use Rattle.law_terms.specs.Literals.{are_literals, is_literal}
use Rattle.law_terms.specs.Plain.{SetTerm, terms}
use Rattle.smt_term.specs.View.{plain_elements, plain_term, plain_term-Set, plain_type}
use Rattle.smt_term.specs.declared.term.Term.{Term, Set}
use Rattle.smt_term.specs.declared.term.TermSet.{TermSet}
use Rattle.smt_term.specs.declared.types.TermType.{TermType}

-- whether all terms are literals, by one and the others
abbrev pub literal_list : List Term → Bool
literal_list ts = are_literals (terms (map plain_term ts))

pub literals_more : (ts : List Term) (i : ℕ) (t : Term) → i < length ts → t ≡ get_or ts i t → literal_list (drop i ts) ≡ (is_literal (plain_term t) && literal_list (drop (i + 1) ts))
literals_more ts i t l e = at_drop_more literal_list ts i t l ∙ ap (λ u. is_literal (plain_term u) && literal_list (drop (i + 1) ts)) (sym e)

pub literals_none : (ts : List Term) (i : ℕ) → length ts ≤ i → literal_list (drop i ts) ≡ true
literals_none ts i l = at_drop_all literal_list ts i l

-- a set is a literal where its elements are
pub set_literal : (t : Term) (element : TermType) (elements : TermSet) (items : List Term) → t ≡ Set element elements → map plain_term items ≡ plain_elements elements
    → is_literal (plain_term t) ≡ literal_list items
set_literal t element elements items is same =
    ap (λ u. is_literal (plain_term u)) is ∙ ap is_literal (plain_term-Set element elements) ∙ ap (λ ts. is_literal (SetTerm (plain_type element) (terms ts))) (sym same)
