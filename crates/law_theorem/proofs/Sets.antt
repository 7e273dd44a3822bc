-- Members, subsets, intersections and insertions of carried sets.
use Rattle.std.proofs.Common.{◌≡◌, Bool, true, false, cond, ◌&&◌, ◌||◌, List, [], ◌∷◌, ◌++◌, map, refl, sym, ap, ◌∙◌}
use Rattle.std.specs.Prelude.{Some}
use Rattle.std.specs.BTreeSet.{insert_key}
use Rattle.std.specs.Cmp.{first_so, second_so}
use Rattle.std.specs.Cmp.Derive.{both_true}
use Rattle.std.specs.List.{AllByRecursion, filter}
use Rattle.std.specs.Ordering.{match_ordering, is_lt}
use Rattle.std.specs.declared.cmp.Ordering.{Ordering}
use Rattle.std.specs.declared.cmp.Ordering.TheVariants.{Less, Equal, Greater}
use Rattle.law_terms.specs.Plain.{PlainType, SetType}
use Rattle.law_terms.specs.Values.{Value, Values, no_values, one_value}
use Rattle.law_scripts.specs.ScriptValues.{ScriptValue, SetOf, no_script_values, one_script_value}
use Rattle.law_terms.specs.TypeValues.{IsValue, Enums, AreEnums}
use Rattle.law_terms.specs.ValueOrder.{value_cmp, is_below, ascends, sorted_values, values, list_of_values, set_of}
use Rattle.law_terms.specs.Operators as terms
use Rattle.law_terms.proofs.TotalOrder.{values_total}
use Rattle.law_terms.proofs.SortedValues.{all-sorted}
use Rattle.law_scripts.specs.ScriptOrder as script
use Rattle.law_scripts.specs.ScriptOrder.{put}
use Rattle.law_texts.specs.Options.{◌>>=◌}
use Rattle.law_scripts.specs.Value.{inserted, put_into}
use Rattle.law_lines.specs.NameTables.{Tables}
use Rattle.law_theorem.specs.Carry.{carry, carry_values}
use Rattle.law_terms.proofs.Sorted.{less-is}
use Rattle.law_theorem.proofs.Ordered.{keeps, same_values}

-- ---- lists that ascend

sorted_ascending : (vs : List Value) → ascends value_cmp vs ≡ true → sorted_values vs ≡ vs
sorted_ascending [] h = refl
sorted_ascending (v ∷ vs) h = ap (λ ws. insert_key value_cmp ws v) (sorted_ascending vs (second_so (is_below value_cmp v vs) (ascends value_cmp vs) h)) ∙ first v vs (first_so (is_below value_cmp v vs) (ascends value_cmp vs) h)
  where
    first : (v : Value) (vs : List Value) → is_below value_cmp v vs ≡ true → insert_key value_cmp vs v ≡ v ∷ vs
    first v [] h = refl
    first v (w ∷ ws) h = ap (λ o. match_ordering o (v ∷ w ∷ ws) (w ∷ ws) (w ∷ insert_key value_cmp ws v)) (less-is (value_cmp v w) h)

over : (x y : Value) (ys : List Value) → is_lt (value_cmp x y) ≡ true → is_below value_cmp y ys ≡ true → is_below value_cmp x ys ≡ true
over x y [] h k = refl
over x y (z ∷ ys) h k = ap is_lt (values_total.trans x y z (less-is (value_cmp x y) h) (less-is (value_cmp y z) k))

module _ (test : Value → Bool) where
  below_filtered : (x : Value) (ys : List Value) → is_below value_cmp x ys ≡ true → ascends value_cmp ys ≡ true → is_below value_cmp x (filter test ys) ≡ true
  below_filtered x [] h k = refl
  below_filtered x (y ∷ ys) h k = by (test y) (below_filtered x ys (over x y ys h (first_so (is_below value_cmp y ys) (ascends value_cmp ys) k)) (second_so (is_below value_cmp y ys) (ascends value_cmp ys) k))
    where
      by : (b : Bool) → is_below value_cmp x (filter test ys) ≡ true → is_below value_cmp x (cond b (y ∷ filter test ys) (filter test ys)) ≡ true
      by true r = h
      by false r = r

  pub ascends_filtered : (ys : List Value) → ascends value_cmp ys ≡ true → ascends value_cmp (filter test ys) ≡ true
  ascends_filtered [] k = refl
  ascends_filtered (y ∷ ys) k =
      by (test y) (below_filtered y ys (first_so (is_below value_cmp y ys) (ascends value_cmp ys) k) (second_so (is_below value_cmp y ys) (ascends value_cmp ys) k)) (ascends_filtered ys (second_so (is_below value_cmp y ys) (ascends value_cmp ys) k))
    where
      by : (b : Bool) → is_below value_cmp y (filter test ys) ≡ true → ascends value_cmp (filter test ys) ≡ true → ascends value_cmp (cond b (y ∷ filter test ys) (filter test ys)) ≡ true
      by true p r = both_true p r
      by false p r = r

module _ (enums : Enums) (s : Tables) (good : AreEnums enums) (t : PlainType) where
  abbrev Each : Values → Type 0
  Each vs = AllByRecursion (λ v. IsValue enums t v) (list_of_values vs)

  pub member_carried : (v : Value) (ws : Values) → IsValue enums t v → Each ws → script.is_member (carry enums s t v) (carry_values enums s t ws) ≡ terms.is_member v (list_of_values ws)
  member_carried v no_values h k = refl
  member_carried v (one_value w ws) h k = λ i. same_values enums s good t v w h k.0 i || member_carried v ws h k.1 i

  pub subset_carried : (vs ws : Values) → Each vs → Each ws → script.is_subset (carry_values enums s t vs) (carry_values enums s t ws) ≡ terms.is_subset (list_of_values vs) (list_of_values ws)
  subset_carried no_values ws h k = refl
  subset_carried (one_value v vs) ws h k = λ i. member_carried v ws h.0 k i && subset_carried vs ws h.1 k i

  intersection_carried : (vs ws : Values) → Each vs → Each ws → script.intersection (carry_values enums s t vs) (carry_values enums s t ws) ≡ carry_values enums s t (values (terms.intersection (list_of_values vs) (list_of_values ws)))
  intersection_carried no_values ws h k = refl
  intersection_carried (one_value v vs) ws h k =
      (λ i. cond (member_carried v ws h.0 k i) (one_script_value (carry enums s t v) (intersection_carried vs ws h.1 k i)) (intersection_carried vs ws h.1 k i))
      ∙ by (terms.is_member v (list_of_values ws))
    where
      by : (b : Bool) → cond b (one_script_value (carry enums s t v) (carry_values enums s t (values (terms.intersection (list_of_values vs) (list_of_values ws))))) (carry_values enums s t (values (terms.intersection (list_of_values vs) (list_of_values ws))))
          ≡ carry_values enums s t (values (cond b (v ∷ terms.intersection (list_of_values vs) (list_of_values ws)) (terms.intersection (list_of_values vs) (list_of_values ws))))
      by true = refl
      by false = refl

  pub intersected : (vs ws : Values) → ascends value_cmp (list_of_values vs) ≡ true → Each vs → Each ws
      → SetOf (script.intersection (carry_values enums s t vs) (carry_values enums s t ws)) ≡ carry enums s (SetType t) (set_of (terms.intersection (list_of_values vs) (list_of_values ws)))
  intersected vs ws a h k =
      ap SetOf (intersection_carried vs ws h k)
      ∙ ap (λ xs. SetOf (carry_values enums s t (values xs))) (sym (sorted_ascending (terms.intersection (list_of_values vs) (list_of_values ws)) (ascends_filtered (λ v. terms.is_member v (list_of_values ws)) (list_of_values vs) a)))

  -- ---- insertions

  put_carried : (v : Value) (xs : List Value) → IsValue enums t v → AllByRecursion (λ x. IsValue enums t x) xs → put (carry enums s t v) (carry_values enums s t (values xs)) ≡ carry_values enums s t (values (insert_key value_cmp xs v))
  put_carried v [] h k = refl
  put_carried v (x ∷ xs) h k =
      (λ i. match_ordering (keeps enums s good t v x h k.0 i) (carry_values enums s t (values (v ∷ x ∷ xs))) (carry_values enums s t (values (x ∷ xs))) (one_script_value (carry enums s t x) (put_carried v xs h k.1 i)))
      ∙ by (value_cmp v x)
    where
      by : (o : Ordering) → match_ordering o (carry_values enums s t (values (v ∷ x ∷ xs))) (carry_values enums s t (values (x ∷ xs))) (one_script_value (carry enums s t x) (carry_values enums s t (values (insert_key value_cmp xs v))))
          ≡ carry_values enums s t (values (match_ordering o (v ∷ x ∷ xs) (x ∷ xs) (x ∷ insert_key value_cmp xs v)))
      by Less = refl
      by Equal = refl
      by Greater = refl

  inserted_first : (x : ScriptValue) (ys : List ScriptValue) (z : ScriptValue) → inserted (x ∷ (ys ++ z ∷ [])) ≡ (inserted (ys ++ z ∷ []) >>= put_into x)
  inserted_first x [] z = refl
  inserted_first x (y ∷ ys) z = refl

  pub insertions : (vs : List Value) → AllByRecursion (λ v. IsValue enums t v) vs → inserted (map (carry enums s t) vs ++ SetOf no_script_values ∷ []) ≡ Some (carry enums s (SetType t) (set_of vs))
  insertions [] h = refl
  insertions (v ∷ vs) h =
      inserted_first (carry enums s t v) (map (carry enums s t) vs) (SetOf no_script_values)
      ∙ (ap (λ r. r >>= put_into (carry enums s t v)) (insertions vs h.1)
      ∙ ap (λ x. Some (SetOf x)) (put_carried v (sorted_values vs) h.0 (all-sorted (λ x. IsValue enums t x) vs h.1)))
