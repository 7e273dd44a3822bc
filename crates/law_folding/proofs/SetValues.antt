-- Sets of literals have an element, a subset and common elements where their values do.
use Rattle.std.proofs.Common.{◌≡◌, true, List, [], ◌∷◌, refl, ap, ◌∙◌, sym, subst}
use Rattle.std.specs.Prelude.{filter}
use Rattle.std.specs.List.{AllByRecursion, list_all}
use Rattle.law_folding.specs.FoldSets.{is_among}
use Rattle.law_folding.proofs.SetLists.{HasValue, IsElement, each_of, each_passed, elements_typed, find, found, keep, kept, literal_each, meaning_from, meaning_in, of_each, passed_each, same_set, same_truth}
use Rattle.law_terms.proofs.Listed.{listed_again}
use Rattle.law_terms.specs.Formed.{IsFormedNode}
use Rattle.law_terms.specs.Literals.{are_literals, is_literal}
use Rattle.law_terms.specs.Meaning.{meaning, meanings}
use Rattle.law_terms.specs.Operators.{elements, intersection, is_member, is_subset}
use Rattle.law_terms.specs.Reached.{subterms, subterms_of_all}
use Rattle.law_terms.specs.Shapes.{IsShaped}
use Rattle.law_terms.specs.Tables.{Interpretation}
use Rattle.law_terms.specs.TermOrder.{term_eq}
use Rattle.law_terms.specs.TermSets.{sorted_terms}
use Rattle.law_terms.specs.Types.{is_set}
use Rattle.law_terms.specs.Typing.{typed}
use Rattle.law_terms.specs.ValueOrder.{list_of_values, set_of, sorted_values, value_cmp, value_eq, values}
use Rattle.law_terms.proofs.LiteralValues.{same}
use Rattle.law_terms.proofs.Sorted.{IsIn, one_list}
use Rattle.law_terms.proofs.SortedSets.{in-sorted, in-terms, out-sorted, out-terms}
use Rattle.law_terms.proofs.SortedValues.{ascends-sorted, list-values}
use Rattle.law_terms.proofs.Soundness.{all-back, all-front}
use Rattle.law_terms.proofs.TermTotal.{terms_decided}
use Rattle.law_terms.proofs.TotalOrder.{values_total}
use Rattle.law_terms.proofs.ValueOrder.{values_decided}
use Rattle.law_terms.specs.Plain.{PlainType, SetType, PlainTerm, SetTerm, PlainTerms, no_terms, one_term, list_of_terms, terms}
use Rattle.law_terms.specs.Values.{Value, SetValue, Values, no_values, one_value}

-- ---- the elements of a set's value

module _ (I : Interpretation) (ts : PlainTerms) where
  abbrev pub Elements : List Value
  Elements = elements (set_of (meanings I ts))

  pub in_set : (v : Value) → IsIn v Elements → HasValue I (list_of_terms ts) v
  in_set v m =
      let n : IsIn v (sorted_values (meanings I ts)) = subst (λ (l : List Value). IsIn v l) (list-values (sorted_values (meanings I ts))) m in
      meaning_from I v (list_of_terms ts) (subst (λ (us : PlainTerms). IsIn v (meanings I us)) (sym (listed_again ts)) (out-sorted v (meanings I ts) n))

  pub set_in : (t : PlainTerm) → IsIn t (list_of_terms ts) → IsIn (meaning I t) Elements
  set_in t m =
      let n : IsIn (meaning I t) (meanings I ts) = subst (λ (us : PlainTerms). IsIn (meaning I t) (meanings I us)) (listed_again ts) (meaning_in I t (list_of_terms ts) m) in
      subst (λ (l : List Value). IsIn (meaning I t) l) (sym (list-values (sorted_values (meanings I ts)))) (in-sorted (meaning I t) (meanings I ts) n)

-- ---- literals

-- a typed and formed literal that may stand in a set of this element type
pub record IsLiteralElement (ty : PlainType) (t : PlainTerm) : Type 0 where
  pub literal : is_literal t ≡ true
  pub element : IsElement ty t
  pub formed : AllByRecursion IsFormedNode (subterms t)

formed_each : (ts : PlainTerms) → AllByRecursion IsFormedNode (subterms_of_all ts) → AllByRecursion (λ t. AllByRecursion IsFormedNode (subterms t)) (list_of_terms ts)
formed_each no_terms h = tt
formed_each (one_term t ts) h = (all-front IsFormedNode (subterms t) (subterms_of_all ts) h, formed_each ts (all-back IsFormedNode (subterms t) (subterms_of_all ts) h))

literal_elements_of : (ty : PlainType) (ts : List PlainTerm) → AllByRecursion (λ t. is_literal t ≡ true) ts → AllByRecursion (IsElement ty) ts → AllByRecursion (λ t. AllByRecursion IsFormedNode (subterms t)) ts → AllByRecursion (IsLiteralElement ty) ts
literal_elements_of ty [] h g f = tt
literal_elements_of ty (t ∷ ts) h g f = (record { literal = h.0; element = g.0; formed = f.0 }, literal_elements_of ty ts h.1 g.1 f.1)

-- the elements of a typed and formed set of literals
pub literal_elements : (ty : PlainType) (ts : PlainTerms) → are_literals ts ≡ true → typed (SetTerm ty ts) ≡ true → AllByRecursion IsFormedNode (subterms (SetTerm ty ts)) → AllByRecursion (IsLiteralElement ty) (list_of_terms ts)
literal_elements ty ts h g f = literal_elements_of ty (list_of_terms ts) (literal_each ts h) (elements_typed ty ts g) (formed_each ts (all-front IsFormedNode (subterms_of_all ts) (SetTerm ty ts ∷ []) f))

module _ (I : Interpretation) (ty : PlainType) where
  same_literal : (t u : PlainTerm) → IsLiteralElement ty t → IsLiteralElement ty u → meaning I t ≡ meaning I u → t ≡ u
  same_literal t u a b e = same I t u (a.literal, a.element.parts, a.formed) (b.literal, b.element.parts, b.formed) (sym a.element.type ∙ b.element.type) e

  -- a literal is among literals where its value is
  pub among_is : (t : PlainTerm) (us : PlainTerms) → IsLiteralElement ty t → AllByRecursion (IsLiteralElement ty) (list_of_terms us) → is_among (list_of_terms us) t ≡ is_member (meaning I t) (Elements I us)
  among_is t us a b =
      same_truth (is_among (list_of_terms us) t) (is_member (meaning I t) (Elements I us))
      (λ h. find value_eq values_decided (meaning I t) (Elements I us) (set_in I us t (found term_eq terms_decided t (list_of_terms us) h)))
      (λ h. (
      let r : HasValue I (list_of_terms us) (meaning I t) = in_set I us (meaning I t) (found value_eq values_decided (meaning I t) (Elements I us) h) in
      let e : t ≡ r.term = same_literal t r.term a (each_of (IsLiteralElement ty) (list_of_terms us) b r.term r.inside) r.value in
      find term_eq terms_decided t (list_of_terms us) (subst (λ (x : PlainTerm). IsIn x (list_of_terms us)) (sym e) r.inside)))

  module _ (ts us : PlainTerms) (a : AllByRecursion (IsLiteralElement ty) (list_of_terms ts)) (b : AllByRecursion (IsLiteralElement ty) (list_of_terms us)) where
    at : (t : PlainTerm) → IsIn t (list_of_terms ts) → is_among (list_of_terms us) t ≡ is_member (meaning I t) (Elements I us)
    at t m = among_is t us (each_of (IsLiteralElement ty) (list_of_terms ts) a t m) b

    pub subset_is : list_all (is_among (list_of_terms us)) (list_of_terms ts) ≡ is_subset (Elements I ts) (Elements I us)
    subset_is =
        same_truth (list_all (is_among (list_of_terms us)) (list_of_terms ts)) (is_subset (Elements I ts) (Elements I us))
        (λ h. each_passed (λ v. is_member v (Elements I us)) (Elements I ts) (of_each (λ v. is_member v (Elements I us) ≡ true) (Elements I ts) (λ v m. (
        let r : HasValue I (list_of_terms ts) v = in_set I ts v m in
        let k : is_among (list_of_terms us) r.term ≡ true = each_of (λ t. is_among (list_of_terms us) t ≡ true) (list_of_terms ts) (passed_each (is_among (list_of_terms us)) (list_of_terms ts) h) r.term r.inside in
        subst (λ (w : Value). is_member w (Elements I us) ≡ true) (sym r.value) (sym (at r.term r.inside) ∙ k)))))
        (λ h. each_passed (is_among (list_of_terms us)) (list_of_terms ts) (of_each (λ t. is_among (list_of_terms us) t ≡ true) (list_of_terms ts) (λ t m. (
        at t m ∙ each_of (λ v. is_member v (Elements I us) ≡ true) (Elements I ts) (passed_each (λ v. is_member v (Elements I us)) (Elements I ts) h) (meaning I t) (set_in I ts t m)))))

    abbrev Common : List PlainTerm
    Common = filter (is_among (list_of_terms us)) (list_of_terms ts)

    common_in : (v : Value) → IsIn v (meanings I (terms (sorted_terms Common))) → IsIn v (intersection (Elements I ts) (Elements I us))
    common_in v m =
        let r : HasValue I (sorted_terms Common) v = meaning_from I v (sorted_terms Common) m in
        let k : IsIn r.term (list_of_terms ts) × (is_among (list_of_terms us) r.term ≡ true) = kept (is_among (list_of_terms us)) r.term (list_of_terms ts) (out-terms r.term Common r.inside) in
        subst (λ (w : Value). IsIn w (intersection (Elements I ts) (Elements I us))) (sym r.value) (keep (λ w. is_member w (Elements I us)) (meaning I r.term) (Elements I ts) (set_in I ts r.term k.0) (sym (at r.term k.0) ∙ k.1))

    in_common : (v : Value) → IsIn v (intersection (Elements I ts) (Elements I us)) → IsIn v (meanings I (terms (sorted_terms Common)))
    in_common v m =
        let k : IsIn v (Elements I ts) × (is_member v (Elements I us) ≡ true) = kept (λ w. is_member w (Elements I us)) v (Elements I ts) m in
        let r : HasValue I (list_of_terms ts) v = in_set I ts v k.0 in
        let p : is_among (list_of_terms us) r.term ≡ true = at r.term r.inside ∙ subst (λ (w : Value). is_member w (Elements I us) ≡ true) r.value k.1 in
        subst (λ (w : Value). IsIn w (meanings I (terms (sorted_terms Common)))) (sym r.value) (meaning_in I r.term (sorted_terms Common) (in-terms r.term Common (keep (is_among (list_of_terms us)) r.term (list_of_terms ts) r.inside p)))

    pub common_is : set_of (meanings I (terms (sorted_terms Common))) ≡ set_of (intersection (Elements I ts) (Elements I us))
    common_is = same_set (meanings I (terms (sorted_terms Common))) (intersection (Elements I ts) (Elements I us)) common_in in_common

-- ---- a set against itself, and against the empty set

values_again : (vs : Values) → values (list_of_values vs) ≡ vs
values_again no_values = refl
values_again (one_value v vs) = ap (one_value v) (values_again vs)

member_itself : (vs : List Value) (v : Value) → IsIn v vs → is_member v vs ≡ true
member_itself vs v m = find value_eq values_decided v vs m

pub subset_itself : (vs : List Value) → true ≡ is_subset vs vs
subset_itself vs = sym (each_passed (λ v. is_member v vs) vs (of_each (λ v. is_member v vs ≡ true) vs (member_itself vs)))

pub inter_itself : (ty : PlainType) (v : Value) → is_set ty ≡ true → IsShaped ty v → v ≡ set_of (intersection (elements v) (elements v))
inter_itself (SetType ty) (SetValue vs) e h =
    let l : List Value = list_of_values vs in
    let p : l ≡ sorted_values (intersection l l) = one_list value_cmp values_total l (sorted_values (intersection l l)) h.0 (ascends-sorted (intersection l l)) (λ v m. in-sorted v (intersection l l) (keep (λ w. is_member w l) v l m (member_itself l v m))) (λ v m. (kept (λ w. is_member w l) v l (out-sorted v (intersection l l) m)).0) in
    ap SetValue (sym (values_again vs) ∙ ap values p)
inter_itself (SetType ty) v e h = elim h [ ]
inter_itself ty v e h = cc

pub none_common : (vs : List Value) → [] ≡ intersection vs []
none_common [] = refl
none_common (v ∷ vs) = none_common vs
