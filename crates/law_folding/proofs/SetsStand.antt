-- The foldings of the calls on sets stand for them.
use Rattle.std.proofs.Common.{◌≡◌, Bool, true, false, ◌&&◌, ◌||◌, cond, List, [], ◌∷◌, refl, ap, sym, subst, ⊎_elim}
use Rattle.std.specs.Prelude.{filter, Some}
use Rattle.std.specs.BTreeSet.{insert_key}
use Rattle.std.specs.Bool.{then_some}
use Rattle.std.specs.Cmp.{first_so, second_so}
use Rattle.std.specs.List.{AllByRecursion, list_all}
use Rattle.std.specs.Ordering.{match_ordering}
use Rattle.std.specs.declared.cmp.Ordering.{Ordering}
use Rattle.std.specs.declared.cmp.Ordering.TheVariants.{Less, Equal, Greater}
use Rattle.std.proofs.lemmas.Bool.{false≢true, or_cases}
use Rattle.law_folding.specs.Applications.{truth_literal, true_term, false_term, set_member_of, set_subset_of, set_inter_of}
use Rattle.law_folding.specs.Builder.{applied, folding}
use Rattle.law_folding.specs.Composites.{set_is_empty}
use Rattle.law_folding.specs.FoldSets.{common_set, folded_set_member, folded_set_subset, folded_set_inter, is_among}
use Rattle.law_folding.specs.Parts.{element_type, elements_in, is_empty_set, is_set_literal}
use Rattle.law_folding.specs.Refinement.{Refines}
use Rattle.law_folding.proofs.ConnectivesStand.{chosen_type, first_argument, second_argument, same_term}
use Rattle.law_folding.proofs.EqualityStands.{equal_for_eq, literal_for_eq}
use Rattle.law_folding.proofs.Records.{HasFormedType}
use Rattle.law_folding.proofs.SetLists.{IsElement, among_them, elements_typed, filtered, kept, set_typed}
use Rattle.law_terms.proofs.Listed.{listed_again}
use Rattle.law_folding.proofs.SetValues.{IsLiteralElement, among_is, common_is, inter_itself, literal_elements, none_common, subset_is, subset_itself}
use Rattle.law_folding.proofs.SetsKept.{of_set}
use Rattle.law_folding.proofs.Standing.{itself, last_of, one_of, standing, standing_within, truth_standing}
use Rattle.law_folding.proofs.TypeTests.{IsMade, test_folded, test_kept}
use Rattle.law_terms.specs.Formed.{IsFormedNode, IsFormedType}
use Rattle.law_terms.specs.Interpretations.{IsGiven}
use Rattle.law_terms.specs.Literals.{are_literals, is_literal}
use Rattle.law_terms.specs.Meaning.{meaning, meanings}
use Rattle.law_terms.specs.Operators.{elements}
use Rattle.law_terms.specs.Reached.{subterms, subterms_of_all}
use Rattle.law_terms.specs.TermOrder.{term_eq}
use Rattle.law_terms.specs.TermSets.{set_term}
use Rattle.law_terms.specs.Types.{is_set, is_type, type_eq, type_of}
use Rattle.law_terms.specs.Typing.{typed}
use Rattle.law_terms.specs.ValueOrder.{set_of, sorted_values, value_cmp, value_eq, values}
use Rattle.law_terms.proofs.Shapes.{term_shaped}
use Rattle.law_terms.proofs.Soundness.{all-front, inside}
use Rattle.law_terms.proofs.TypeOrder.{eq_same}
use Rattle.law_terms.specs.Plain.{PlainType, BoolType, SetType, SetInterOp, SetMemberOp, SetSubsetOp, PlainTerm, SetTerm, PlainTerms, no_terms, one_term, list_of_terms}
use Rattle.law_terms.specs.Values.{Value, BoolValue, SetValue, no_values}

-- ---- parts

-- what a typed application of two arguments has
pub record TwoTyped (t u : PlainTerm) (b : Bool) (a ty : PlainType) : Type 0 where
  pub first : typed t ≡ true
  pub second : typed u ≡ true
  pub holds : b ≡ true
  pub result : a ≡ ty

two_typed : (t u : PlainTerm) (b : Bool) (a ty : PlainType) → ((typed t && (typed u && true)) && is_type (then_some b a) ty) ≡ true → TwoTyped t u b a ty
two_typed t u b a ty h =
    let p : (typed t && (typed u && true)) ≡ true = first_so (typed t && (typed u && true)) (is_type (then_some b a) ty) h in
    let q : (b ≡ true) × (a ≡ ty) = chosen_type b a ty (second_so (typed t && (typed u && true)) (is_type (then_some b a) ty) h) in
    record { first = first_so (typed t) (typed u && true) p; second = first_so (typed u) true (second_so (typed t) (typed u && true) p); holds = q.0; result = q.1 }

member_parts : (t u : PlainTerm) → typed (set_member_of t u) ≡ true → TwoTyped t u (type_eq (type_of u) (SetType (type_of t))) BoolType BoolType
member_parts t u h = two_typed t u (type_eq (type_of u) (SetType (type_of t))) BoolType BoolType h

subset_parts : (t u : PlainTerm) → typed (set_subset_of t u) ≡ true → TwoTyped t u (is_set (type_of t) && type_eq (type_of t) (type_of u)) BoolType BoolType
subset_parts t u h = two_typed t u (is_set (type_of t) && type_eq (type_of t) (type_of u)) BoolType BoolType h

inter_parts : (t u : PlainTerm) → typed (set_inter_of t u) ≡ true → TwoTyped t u (is_set (type_of t) && type_eq (type_of t) (type_of u)) (type_of t) (type_of t)
inter_parts t u h = two_typed t u (is_set (type_of t) && type_eq (type_of t) (type_of u)) (type_of t) (type_of t) h

-- two sets of one type have one type of elements
one_element_type : (a b : PlainType) → (is_set (SetType a) && type_eq (SetType a) (SetType b)) ≡ true → a ≡ b
one_element_type a b h = let e : SetType a ≡ SetType b = eq_same (SetType a) (SetType b) (second_so true (type_eq (SetType a) (SetType b)) h) in cc

-- ---- membership

no_member : (t u : PlainTerm) → is_empty_set u ≡ true → Refines false_term (set_member_of t u)
no_member t (SetTerm ty no_terms) e = truth_standing false (set_member_of t (SetTerm ty no_terms)) refl (λ enums I h f g. refl)
no_member t (SetTerm ty (one_term u us)) e = absurd (false≢true e)
no_member t u e = absurd (false≢true e)

literal_member : (t u : PlainTerm) → is_literal t ≡ true → is_set_literal u ≡ true → Refines (truth_literal (is_among (elements_in u) t)) (set_member_of t u)
literal_member t (SetTerm ty us) l k =
    truth_standing (is_among (list_of_terms us) t) (set_member_of t (SetTerm ty us)) refl
    (λ enums I h f g. (
    let p = member_parts t (SetTerm ty us) h in
    let e : SetType ty ≡ SetType (type_of t) = eq_same (SetType ty) (SetType (type_of t)) p.holds in
    let d : ty ≡ type_of t = cc in
    ap BoolValue (among_is I ty t us
    (record { literal = l; element = record { parts = p.first; type = d }; formed = first_argument IsFormedNode SetMemberOp t (SetTerm ty us) BoolType f.literals })
    (literal_elements ty us k p.second (second_argument IsFormedNode SetMemberOp t (SetTerm ty us) BoolType f.literals)))))
literal_member t u l k = absurd (false≢true k)

pub stands_set_member : (t u : PlainTerm) → Refines (folded_set_member t u) (set_member_of t u)
stands_set_member t u =
    one_of (is_empty_set u) false_term (cond (is_literal t && is_set_literal u) (truth_literal (is_among (elements_in u) t)) (set_member_of t u)) (set_member_of t u) (no_member t u)
    (one_of (is_literal t && is_set_literal u) (truth_literal (is_among (elements_in u) t)) (set_member_of t u) (set_member_of t u) (λ h. literal_member t u (first_so (is_literal t) (is_set_literal u) h) (second_so (is_literal t) (is_set_literal u) h))
    (itself (set_member_of t u)))

-- ---- subsets

subset_of_itself : (t u : PlainTerm) → t ≡ u → Refines true_term (set_subset_of t u)
subset_of_itself t u e =
    subst (λ (w : PlainTerm). Refines true_term (set_subset_of t w)) e
    (truth_standing true (set_subset_of t t) refl (λ enums I h f g. ap BoolValue (subset_itself (elements (meaning I t)))))

empty_subset : (t u : PlainTerm) → is_empty_set t ≡ true → Refines true_term (set_subset_of t u)
empty_subset (SetTerm ty no_terms) u e = truth_standing true (set_subset_of (SetTerm ty no_terms) u) refl (λ enums I h f g. refl)
empty_subset (SetTerm ty (one_term t ts)) u e = absurd (false≢true e)
empty_subset t u e = absurd (false≢true e)

literal_subset : (t u : PlainTerm) → is_set_literal t ≡ true → is_set_literal u ≡ true → Refines (truth_literal (list_all (is_among (elements_in u)) (elements_in t))) (set_subset_of t u)
literal_subset (SetTerm a ts) (SetTerm b us) l k =
    truth_standing (list_all (is_among (list_of_terms us)) (list_of_terms ts)) (set_subset_of (SetTerm a ts) (SetTerm b us)) refl
    (λ enums I h f g. (
    let p = subset_parts (SetTerm a ts) (SetTerm b us) h in
    let x : AllByRecursion (IsLiteralElement b) (list_of_terms us) = literal_elements b us k p.second (second_argument IsFormedNode SetSubsetOp (SetTerm a ts) (SetTerm b us) BoolType f.literals) in
    ap BoolValue (subset_is I a ts us (literal_elements a ts l p.first (first_argument IsFormedNode SetSubsetOp (SetTerm a ts) (SetTerm b us) BoolType f.literals))
    (subst (λ (y : PlainType). AllByRecursion (IsLiteralElement y) (list_of_terms us)) (sym (one_element_type a b p.holds)) x))))
literal_subset (SetTerm a ts) u l k = absurd (false≢true k)
literal_subset t u l k = absurd (false≢true l)

pub stands_set_subset : (t u : PlainTerm) → Refines (folded_set_subset t u) (set_subset_of t u)
stands_set_subset t u =
    one_of (term_eq t u || is_empty_set t) true_term (cond (is_set_literal t && is_set_literal u) (truth_literal (list_all (is_among (elements_in u)) (elements_in t))) (set_subset_of t u)) (set_subset_of t u)
    (λ h. ⊎_elim (λ e. subset_of_itself t u (same_term t u e)) (λ e. empty_subset t u e) (or_cases (term_eq t u) (is_empty_set t) h))
    (one_of (is_set_literal t && is_set_literal u) (truth_literal (list_all (is_among (elements_in u)) (elements_in t))) (set_subset_of t u) (set_subset_of t u)
    (λ h. literal_subset t u (first_so (is_set_literal t) (is_set_literal u) h) (second_so (is_set_literal t) (is_set_literal u) h))
    (itself (set_subset_of t u)))

-- ---- intersection

inter_with_itself : (t u : PlainTerm) → t ≡ u → Refines t (set_inter_of t u)
inter_with_itself t u e =
    subst (λ (w : PlainTerm). Refines t (set_inter_of t w)) e
    (standing_within t (set_inter_of t t) (λ P n h. first_argument P SetInterOp t t (type_of t) h) (λ h. ((inter_parts t t h).first, refl))
    (λ enums I h f g. inter_itself (type_of t) (meaning I t) (first_so (is_set (type_of t)) (type_eq (type_of t) (type_of t)) (inter_parts t t h).holds)
    (term_shaped enums I t (inter_parts t t h).first (first_argument IsFormedNode SetInterOp t t (type_of t) f.literals) (first_argument (IsGiven enums I) SetInterOp t t (type_of t) g))))

empty_first : (t u : PlainTerm) → is_empty_set t ≡ true → Refines t (set_inter_of t u)
empty_first (SetTerm ty no_terms) u e =
    standing_within (SetTerm ty no_terms) (set_inter_of (SetTerm ty no_terms) u) (λ P n h. first_argument P SetInterOp (SetTerm ty no_terms) u (SetType ty) h) (λ h. (refl, refl)) (λ enums I h f g. refl)
empty_first (SetTerm ty (one_term t ts)) u e = absurd (false≢true e)
empty_first t u e = absurd (false≢true e)

empty_second : (t u : PlainTerm) → is_empty_set u ≡ true → Refines u (set_inter_of t u)
empty_second t (SetTerm ty no_terms) e =
    standing_within (SetTerm ty no_terms) (set_inter_of t (SetTerm ty no_terms)) (λ P n h. second_argument P SetInterOp t (SetTerm ty no_terms) (type_of t) h)
    (λ h. (refl, sym (eq_same (type_of t) (SetType ty) (second_so (is_set (type_of t)) (type_eq (type_of t) (SetType ty)) (inter_parts t (SetTerm ty no_terms) h).holds))))
    (λ enums I h f g. ap set_of (none_common (elements (meaning I t))))
empty_second t (SetTerm ty (one_term u us)) e = absurd (false≢true e)
empty_second t u e = absurd (false≢true e)

module _ (a : PlainType) (ts : PlainTerms) (b : PlainType) (us : PlainTerms) where
  abbrev Common : List PlainTerm
  Common = filter (is_among (list_of_terms us)) (list_of_terms ts)

  abbrev Inter : PlainTerm
  Inter = set_inter_of (SetTerm a ts) (SetTerm b us)

  common_subterms : (P : PlainTerm → Type 0) → P (set_term a Common) → AllByRecursion P (subterms Inter) → AllByRecursion P (subterms (set_term a Common))
  common_subterms P p h =
      let g : AllByRecursion P (subterms_of_all ts) = all-front P (subterms_of_all ts) (SetTerm a ts ∷ []) (first_argument P SetInterOp (SetTerm a ts) (SetTerm b us) (SetType a) h) in
      of_set P a Common p (among_them P Common (list_of_terms ts) (λ z m. (kept (is_among (list_of_terms us)) z (list_of_terms ts) m).0) (subst (λ (xs : PlainTerms). AllByRecursion P (subterms_of_all xs)) (sym (listed_again ts)) g))

  common_stands : are_literals ts ≡ true → are_literals us ≡ true → Refines (set_term a Common) Inter
  common_stands l k =
      standing (set_term a Common) Inter (λ P q h. common_subterms P (q (set_term a Common) (refl, refl, refl, refl)) h)
      (λ f. record { literals = common_subterms IsFormedNode tt f.literals; types = common_subterms HasFormedType (last_of HasFormedType Inter f.types) f.types })
      (λ h. (set_typed a Common (filtered (is_among (list_of_terms us)) (IsElement a) (list_of_terms ts) (elements_typed a ts (inter_parts (SetTerm a ts) (SetTerm b us) h).first)), refl))
      (λ enums I h f g. (
      let p = inter_parts (SetTerm a ts) (SetTerm b us) h in
      let x : AllByRecursion (IsLiteralElement b) (list_of_terms us) = literal_elements b us k p.second (second_argument IsFormedNode SetInterOp (SetTerm a ts) (SetTerm b us) (SetType a) f.literals) in
      common_is I a ts us (literal_elements a ts l p.first (first_argument IsFormedNode SetInterOp (SetTerm a ts) (SetTerm b us) (SetType a) f.literals))
      (subst (λ (y : PlainType). AllByRecursion (IsLiteralElement y) (list_of_terms us)) (sym (one_element_type a b p.holds)) x)))

literal_inter : (t u : PlainTerm) → is_set_literal t ≡ true → is_set_literal u ≡ true → Refines (common_set t u) (set_inter_of t u)
literal_inter (SetTerm a ts) (SetTerm b us) l k = common_stands a ts b us l k
literal_inter (SetTerm a ts) u l k = absurd (false≢true k)
literal_inter t u l k = absurd (false≢true l)

pub stands_set_inter : (t u : PlainTerm) → Refines (folded_set_inter t u) (set_inter_of t u)
stands_set_inter t u =
    one_of (term_eq t u || is_empty_set t) t second (set_inter_of t u) (λ h. ⊎_elim (λ e. inter_with_itself t u (same_term t u e)) (λ e. empty_first t u e) (or_cases (term_eq t u) (is_empty_set t) h))
    (one_of (is_empty_set u) u both (set_inter_of t u) (empty_second t u)
    (one_of (is_set_literal t && is_set_literal u) (common_set t u) (set_inter_of t u) (set_inter_of t u) (λ h. literal_inter t u (first_so (is_set_literal t) (is_set_literal u) h) (second_so (is_set_literal t) (is_set_literal u) h))
    (itself (set_inter_of t u))))
  where
    both : PlainTerm
    both = cond (is_set_literal t && is_set_literal u) (common_set t u) (set_inter_of t u)

    second : PlainTerm
    second = cond (is_empty_set u) u both

-- ---- emptiness

-- the empty set, made of its element type
set_type_inside : (ty x : PlainType) → element_type ty ≡ Some x → IsFormedType ty → IsFormedType (SetType x)
set_type_inside (SetType t) x e f = subst (λ (y : PlainType). IsFormedType (SetType y)) (inside t x e) f
set_type_inside ty x e f = cc

empty_is_made : IsMade element_type (λ ty. SetTerm ty no_terms)
empty_is_made = record { single = λ P x p. (p, tt); asks = λ x. (refl, refl, refl, refl); node = λ x. tt; type = set_type_inside }

not_empty : (k : Value) (xs : List Value) → false ≡ value_eq (SetValue (values (insert_key value_cmp xs k))) (SetValue no_values)
not_empty k [] = refl
not_empty k (x ∷ xs) = by (value_cmp k x)
  where
    by : (o : Ordering) → false ≡ value_eq (SetValue (values (match_ordering o (k ∷ x ∷ xs) (x ∷ xs) (x ∷ insert_key value_cmp xs k)))) (SetValue no_values)
    by Less = refl
    by Equal = refl
    by Greater = refl

pub stands_set_is_empty : (t : PlainTerm) → Refines (set_is_empty folding t) (set_is_empty applied t)
stands_set_is_empty (SetTerm ty no_terms) = equal_for_eq (SetTerm ty no_terms) (SetTerm ty no_terms) refl
stands_set_is_empty (SetTerm ty (one_term t ts)) = literal_for_eq false (SetTerm ty (one_term t ts)) (SetTerm ty no_terms) (λ enums I p f. not_empty (meaning I t) (sorted_values (meanings I ts)))
stands_set_is_empty t = test_folded element_type (λ ty. SetTerm ty no_terms) empty_is_made (element_type (type_of t)) t

pub empty_kept : (t u : PlainTerm) → Refines t u → Refines (set_is_empty applied t) (set_is_empty applied u)
empty_kept = test_kept element_type (λ ty. SetTerm ty no_terms) empty_is_made
