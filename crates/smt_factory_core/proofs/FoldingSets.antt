-- What the code's tests of sets decide, in the words of the foldings.
use Rattle.std.proofs.Common.{◌≡◌, ℕ, ◌+◌, ◌<◌, Bool, true, false, ◌&&◌, ◌||◌, List, [], map, drop, length, get_or, refl, ap, ◌∙◌, sym, subst}
use Rattle.std.specs.Prelude.{◌↔◌, IsTrue, Option, Some, None, filter}
use Rattle.std.proofs.lemmas.List.{at_drop_more}
use Rattle.law_folding.specs.Applications.{truth_literal, false_term, set_member_of, set_subset_of, set_inter_of}
use Rattle.law_folding.specs.Builder.{folding}
use Rattle.law_folding.specs.Composites.{set_is_empty}
use Rattle.law_folding.specs.FoldEquality.{folded_eq}
use Rattle.law_folding.specs.FoldSets.{common_set, folded_set_inter, folded_set_member, folded_set_subset, is_among}
use Rattle.law_folding.specs.Parts.{element_type, elements_in, is_empty_set, is_set_literal, is_set_term}
use Rattle.law_folding.specs.Refinement.{Refines}
use Rattle.law_folding.proofs.SetsStand.{stands_set_inter, stands_set_member, stands_set_subset}
use Rattle.law_folding.proofs.CompositesStand.{stands_set_intersects}
use Rattle.law_terms.proofs.Listed.{listed}
use Rattle.law_terms.specs.Literals.{is_literal}
use Rattle.law_terms.specs.TermOrder.{term_eq}
use Rattle.law_terms.specs.TermSets.{set_term}
use Rattle.law_terms.specs.Types.{type_of}
use Rattle.smt_term.specs.View.{plain_term}
use Rattle.smt_term.specs.declared.term.Term.{Term}
use Rattle.law_terms.specs.Plain.{PlainType, PlainTerm, SetTerm, no_terms, one_term, terms}

-- ---- what a set is

pub elements_in-set : (ty : PlainType) (ts : List PlainTerm) → elements_in (SetTerm ty (terms ts)) ≡ ts
elements_in-set ty ts = listed ts

pub empty_set-is : (t : PlainTerm) (ts : List PlainTerm) (b : Bool) → true ≡ is_set_term t → elements_in t ≡ ts → IsTrue b ↔ (ts ≡ []) → b ≡ is_empty_set t
empty_set-is (SetTerm ty no_terms) ts true e d h = refl
empty_set-is (SetTerm ty no_terms) ts false e d h = h.1 (sym d)
empty_set-is (SetTerm ty (one_term t us)) ts true e d h = let none : ts ≡ [] = h.0 refl in cc
empty_set-is (SetTerm ty (one_term t us)) ts false e d h = refl
empty_set-is t ts b e d h = cc

-- what is no set that is given by its elements has none, and is not empty
pub elements_in-other : (t : PlainTerm) → false ≡ is_set_term t → elements_in t ≡ []
elements_in-other (SetTerm ty ts) e = cc
elements_in-other t e = refl

pub empty_set-other : (t : PlainTerm) → false ≡ is_set_term t → is_empty_set t ≡ false
empty_set-other (SetTerm ty ts) e = cc
empty_set-other t e = refl

pub set_literal-is : (t : PlainTerm) → is_set_literal t ≡ (is_set_term t && is_literal t)
set_literal-is (SetTerm ty ts) = refl
set_literal-is t = refl

pub common_set-set : (ty : PlainType) (ts : List PlainTerm) (u : PlainTerm) → common_set (SetTerm ty (terms ts)) u ≡ set_term ty (filter (is_among (elements_in u)) ts)
common_set-set ty ts u = ap (λ l. set_term ty (filter (is_among (elements_in u)) l)) (listed ts)

pub is_empty-elements : (t : PlainTerm) → is_set_term t ≡ true → set_is_empty folding t ≡ truth_literal (is_empty_set t)
is_empty-elements (SetTerm ty ts) e = refl
is_empty-elements t e = cc

by_type : (t : PlainTerm) (x : PlainType) → element_type (type_of t) ≡ Some x → (elim (element_type (type_of t)) [ Some ty ↦ folded_eq t (SetTerm ty no_terms) | None ↦ false_term ]) ≡ folded_eq t (SetTerm x no_terms)
by_type t x e = ap (λ (o : Option PlainType). elim o as (λ _. PlainTerm) [ Some ty ↦ folded_eq t (SetTerm ty no_terms) | None ↦ false_term ]) e

pub is_empty-set : (t : PlainTerm) (x : PlainType) → is_set_term t ≡ false → element_type (type_of t) ≡ Some x → set_is_empty folding t ≡ folded_eq t (SetTerm x no_terms)
is_empty-set (SetTerm ty ts) x e d = cc
is_empty-set t x e d = by_type t x d

pub is_empty-other : (t : PlainTerm) → element_type (type_of t) ≡ None → set_is_empty folding t ≡ false_term
is_empty-other (SetTerm ty ts) e = cc
is_empty-other t e = ap (λ (o : Option PlainType). elim o as (λ _. PlainTerm) [ Some ty ↦ folded_eq t (SetTerm ty no_terms) | None ↦ false_term ]) e

-- ---- lists of terms, by one and the others

module _ (ts : List Term) (i : ℕ) (t : Term) (l : i < length ts) (is : t ≡ get_or ts i t) where
  pub among_more : (x : PlainTerm) → is_among (map plain_term (drop i ts)) x ≡ (term_eq x (plain_term t) || is_among (map plain_term (drop (i + 1) ts)) x)
  among_more x = at_drop_more (λ (us : List Term). is_among (map plain_term us) x) ts i t l ∙ ap (λ u. term_eq x (plain_term u) || is_among (map plain_term (drop (i + 1) ts)) x) (sym is)

-- ---- what is folded stands for what was asked for

pub stands_for_set_member : (r t u : PlainTerm) → r ≡ folded_set_member t u → Refines r (set_member_of t u)
stands_for_set_member r t u e = subst (λ (x : PlainTerm). Refines x (set_member_of t u)) (sym e) (stands_set_member t u)

pub stands_for_set_subset : (r t u : PlainTerm) → r ≡ folded_set_subset t u → Refines r (set_subset_of t u)
stands_for_set_subset r t u e = subst (λ (x : PlainTerm). Refines x (set_subset_of t u)) (sym e) (stands_set_subset t u)

pub stands_for_set_inter : (r t u : PlainTerm) → r ≡ folded_set_inter t u → Refines r (set_inter_of t u)
stands_for_set_inter r t u e = subst (λ (x : PlainTerm). Refines x (set_inter_of t u)) (sym e) (stands_set_inter t u)

pub ruleset set_folding = (elements_in-set, set_literal-is, common_set-set, is_empty-elements, is_empty-set, is_empty-other, stands_for_set_member, stands_for_set_subset, stands_for_set_inter, stands_set_intersects)
