-- Clauses of sets are valid.
use Rattle.std.proofs.Common.{◌≡◌, Bool, true, false, ◌&&◌, ◌||◌, List, [], ◌∷◌, ap, refl, sym, ◌∙◌}
use Rattle.std.specs.Prelude.{cond, filter, map}
use Rattle.std.specs.List.{AllByRecursion, list_all, list_any}
use Rattle.std.proofs.lemmas.Bool.{and_parts}
use mathlib.Core.Logic.{inl, inr, ⊎_elim}
use Rattle.law_terms.proofs.Sorted.{IsIn, one_list}
use Rattle.law_terms.proofs.SortedSets.{in-sorted, out-sorted}
use Rattle.law_terms.proofs.SortedValues.{list-values}
use Rattle.law_terms.proofs.TotalOrder.{values_total}
use Rattle.law_terms.proofs.ValueOrder.{values_decided}
use Rattle.law_terms.specs.Meaning.{meaning, meanings}
use Rattle.law_terms.specs.Operators.{elements, intersection, is_member, is_subset}
use Rattle.law_terms.specs.Plain.{PlainType, SetType, PlainTerm, SetTerm, terms}
use Rattle.law_terms.specs.Shapes.{IsShaped}
use Rattle.law_terms.specs.Tables.{Interpretation}
use Rattle.law_terms.specs.ValueOrder.{ascends, list_of_values, set_of, value_cmp, value_eq, values}
use Rattle.law_terms.specs.Values.{Value, BoolValue, BitVecValue, StringValue, EntityValue, ExtensionValue, NoneValue, SomeValue, RecordValue, SetValue, Values, no_values, one_value}
use Rattle.law_clauses.specs.Sequents.{IsAlwaysValid, ◌⊢◌}
use Rattle.law_clauses.specs.Sets.{SetsAreValid}
use Rattle.law_clauses.specs.Statements.{Element, Same, Value_of, Within, atom_truth, element_value, first_apart}
use Rattle.law_clauses.proofs.Sequents.{or_behind, or_one}
use Rattle.law_clauses.proofs.Structure.{either, is_same, same_value}

-- membership as a test and as a fact
pub in_list : (v : Value) (vs : List Value) → is_member v vs ≡ true → IsIn v vs
in_list v [] e = cc
in_list v (w ∷ vs) e = by (value_eq v w) refl (λ k. in_list v vs k)
  where
    by : (b : Bool) → value_eq v w ≡ b → (is_member v vs ≡ true → IsIn v vs) → IsIn v (w ∷ vs)
    by true f later = inl (same_value v w f)
    by false f later = inr (later (sym (ap (λ c. c || is_member v vs) f) ∙ e))

pub as_member : (v : Value) (vs : List Value) → IsIn v vs → is_member v vs ≡ true
as_member v [] m = absurd m
as_member v (w ∷ vs) m = ⊎_elim (λ e. ap (λ c. c || is_member v vs) ((values_decided v w).1 e)) (λ n. or_behind (value_eq v w) (is_member v vs) (as_member v vs n)) m

-- the elements of a set of values are those of the list
out_of_set : (v : Value) (vs : List Value) → is_member v (elements (set_of vs)) ≡ true → is_member v vs ≡ true
out_of_set v vs e = as_member v vs (out-sorted v vs (in_list v _ (sym (ap (is_member v) (list-values _)) ∙ e)))

into_set : (v : Value) (vs : List Value) → is_member v vs ≡ true → is_member v (elements (set_of vs)) ≡ true
into_set v vs e = ap (is_member v) (list-values _) ∙ as_member v _ (in-sorted v vs (in_list v vs e))

-- what passes a test, and what is left by it
module _ (test : Value → Bool) where
  passes : (v : Value) (vs : List Value) → list_all test vs ≡ true → IsIn v vs → test v ≡ true
  passes v [] e m = absurd m
  passes v (w ∷ vs) e m = let p = and_parts (test w) (list_all test vs) e in ⊎_elim (λ h. ap test h ∙ p.0) (λ n. passes v vs p.1 n) m

  out_of_filter : (v : Value) (vs : List Value) → IsIn v (filter test vs) → IsIn v vs × (test v ≡ true)
  out_of_filter v [] m = absurd m
  out_of_filter v (w ∷ vs) m = by (test w) refl m (λ n. out_of_filter v vs n)
    where
      by : (b : Bool) → test w ≡ b → IsIn v (cond b (w ∷ filter test vs) (filter test vs)) → (IsIn v (filter test vs) → IsIn v vs × (test v ≡ true)) → IsIn v (w ∷ vs) × (test v ≡ true)
      by true e k later = ⊎_elim (λ h. (inl h, ap test h ∙ e)) (λ n. (inr (later n).0, (later n).1)) k
      by false e k later = (inr (later k).0, (later k).1)

  into_filter : (v : Value) (vs : List Value) → IsIn v vs → test v ≡ true → IsIn v (filter test vs)
  into_filter v [] m t = absurd m
  into_filter v (w ∷ vs) m t = by (test w) refl (λ n. into_filter v vs n t)
    where
      by : (b : Bool) → test w ≡ b → (IsIn v vs → IsIn v (filter test vs)) → IsIn v (cond b (w ∷ filter test vs) (filter test vs))
      by true e later = ⊎_elim (λ h. inl h) (λ n. inr (later n)) m
      by false e later = ⊎_elim (λ h. absurd (let f : true ≡ false = sym t ∙ (ap test h ∙ e) in cc)) (λ n. later n) m

-- where not all are among others, the first that is not
apart_in : (vs ws : List Value) → is_subset vs ws ≡ false → is_member (first_apart vs ws) vs ≡ true
apart_in [] ws e = cc
apart_in (v ∷ vs) ws e = by (is_member v ws) refl (λ k. apart_in vs ws k)
  where
    by : (b : Bool) → is_member v ws ≡ b → (is_subset vs ws ≡ false → is_member (first_apart vs ws) vs ≡ true) → is_member (elim b [ true ↦ first_apart vs ws | false ↦ v ]) (v ∷ vs) ≡ true
    by true f later = or_behind (value_eq (first_apart vs ws) v) (is_member (first_apart vs ws) vs) (later (sym (ap (λ c. c && is_subset vs ws) f) ∙ e))
    by false f later = ap (λ c. c || is_member v vs) ((values_decided v v).1 refl)

apart_out : (vs ws : List Value) → is_member (first_apart vs ws) ws ≡ true → is_subset vs ws ≡ true
apart_out [] ws e = refl
apart_out (v ∷ vs) ws e = by (is_member v ws) refl e (λ k. apart_out vs ws k)
  where
    by : (b : Bool) → is_member v ws ≡ b → is_member (elim b [ true ↦ first_apart vs ws | false ↦ v ]) ws ≡ true → (is_member (first_apart vs ws) ws ≡ true → is_subset vs ws ≡ true) → (b && is_subset vs ws) ≡ true
    by true f g later = later g
    by false f g later = sym f ∙ g

-- the values of a list of terms, one by one
module _ (I : Interpretation) where
  some_same : (a : Element) (ts : List PlainTerm) → is_member (element_value I a) (meanings I (terms ts)) ≡ list_any (atom_truth I) (map (λ t. Same a (Value_of t)) ts)
  some_same a [] = refl
  some_same a (t ∷ ts) = ap (λ b. value_eq (element_value I a) (meaning I t) || b) (some_same a ts)

each_within : (ty : PlainType) (ts us : List PlainTerm) → ((I : Interpretation) (v : Value) → IsIn v (meanings I (terms us)) → IsIn v (meanings I (terms ts))) → AllByRecursion IsAlwaysValid (map (λ t. [] ⊢ (Within (Value_of t) (SetTerm ty (terms ts)) ∷ [])) us)
each_within ty ts [] f = tt
each_within ty ts (u ∷ us) f =
    (λ I h. or_one _ (into_set (meaning I u) (meanings I (terms ts)) (as_member (meaning I u) (meanings I (terms ts)) (f I (meaning I u) (inl refl)))), each_within ty ts us (λ I v m. f I v (inr m)))

-- ---- sets that are subsets of each other

values_list : (vs : Values) → values (list_of_values vs) ≡ vs
values_list no_values = refl
values_list (one_value v vs) = ap (one_value v) (values_list vs)

of_elements : (ty : PlainType) (v : Value) → IsShaped (SetType ty) v → (v ≡ SetValue (values (elements v))) × (ascends value_cmp (elements v) ≡ true)
of_elements ty (SetValue vs) h = (ap SetValue (sym (values_list vs)), h.0)
of_elements ty (BoolValue b) h = absurd h
of_elements ty (BitVecValue n a) h = absurd h
of_elements ty (StringValue s) h = absurd h
of_elements ty (EntityValue e i) h = absurd h
of_elements ty (ExtensionValue x) h = absurd h
of_elements ty NoneValue h = absurd h
of_elements ty (SomeValue v) h = absurd h
of_elements ty (RecordValue fs) h = absurd h

one_set : (ty : PlainType) (v w : Value) → IsShaped (SetType ty) v → IsShaped (SetType ty) w → is_subset (elements v) (elements w) ≡ true → is_subset (elements w) (elements v) ≡ true → v ≡ w
one_set ty v w h k e f =
    let p = of_elements ty v h in
    let q = of_elements ty w k in
    let same : elements v ≡ elements w = one_list value_cmp values_total (elements v) (elements w) p.1 q.1 (λ z m. in_list z (elements w) (passes (λ x. is_member x (elements w)) z (elements v) e m)) (λ z m. in_list z (elements v) (passes (λ x. is_member x (elements v)) z (elements w) f m)) in
    p.0 ∙ (ap (λ vs. SetValue (values vs)) same ∙ sym q.0)

pub sets_are_valid : SetsAreValid
sets_are_valid = record {
  elements = λ a b s I h. or_one _ (ap (λ v. is_member v (elements (meaning I s))) (sym (same_value (element_value I a) (element_value I b) h.0)) ∙ h.1.0);
  sets = λ a r s I h. or_one _ (ap (λ v. is_member (element_value I a) (elements v)) (sym (same_value (meaning I r) (meaning I s) h.0)) ∙ h.1.0);
  members = λ t s. (λ I h. or_one _ h.0, (λ I h. or_one _ h.0, tt));
  listed = λ a ty ts I h. sym (some_same I a ts) ∙ out_of_set (element_value I a) (meanings I (terms ts)) h.0;
  each = λ ty ts. each_within ty ts ts (λ I v m. m);
  intersections = λ a ty r s. (
    λ I h. let x = element_value I a in let vs = elements (meaning I r) in let ws = elements (meaning I s) in or_one _ (as_member x vs (out_of_filter (λ v. is_member v ws) x vs (in_list x _ (out_of_set x (intersection vs ws) h.0))).0),
    (
      λ I h. let x = element_value I a in let vs = elements (meaning I r) in let ws = elements (meaning I s) in or_one _ (out_of_filter (λ v. is_member v ws) x vs (in_list x _ (out_of_set x (intersection vs ws) h.0))).1,
      (λ I h. let x = element_value I a in let vs = elements (meaning I r) in let ws = elements (meaning I s) in or_one _ (into_set x (intersection vs ws) (as_member x _ (into_filter (λ v. is_member v ws) x vs (in_list x vs h.0) h.1.0))), tt),
    ),
  );
  subsets = λ a r s. (
    λ I h. or_one _ (passes (λ v. is_member v (elements (meaning I s))) (element_value I a) (elements (meaning I r)) h.0 (in_list (element_value I a) (elements (meaning I r)) h.1.0)),
    (
      λ I h. either (is_subset (elements (meaning I r)) (elements (meaning I s))) _ (λ e. apart_in (elements (meaning I r)) (elements (meaning I s)) e),
      (λ I h. or_one _ (apart_out (elements (meaning I r)) (elements (meaning I s)) h.0), tt),
    ),
  );
  equal = λ enums roots ty r s p q I g h. is_same _ _ (one_set ty (meaning I r) (meaning I s) (p I g) (q I g) h.0 h.1.0);
}
