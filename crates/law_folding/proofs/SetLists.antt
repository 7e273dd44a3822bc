-- Lists of terms as the elements of sets: what holds of a list holds of its terms in order, and the values that they have.
use Rattle.std.proofs.Common.{◌≡◌, Bool, true, false, List, [], ◌∷◌, refl, ap, ◌∙◌, sym, subst, inl, inr, ⊎_elim}
use Rattle.std.specs.Prelude.{◌⊎◌, cond, filter}
use Rattle.std.specs.Bool.{Decides}
use Rattle.std.specs.Cmp.{first_so, second_so}
use Rattle.std.specs.Cmp.Derive.{both_true}
use Rattle.std.specs.List.{AllByRecursion, list_all, list_any}
use Rattle.std.proofs.lemmas.Bool.{or_cases}
use Rattle.law_terms.specs.Literals.{are_literals, is_literal}
use Rattle.law_terms.specs.Meaning.{meaning, meanings}
use Rattle.law_terms.specs.Reached.{subterms, subterms_of_all}
use Rattle.law_terms.specs.Tables.{Interpretation}
use Rattle.law_terms.specs.TermOrder.{term_cmp}
use Rattle.law_terms.specs.TermSets.{set_term, sorted_terms}
use Rattle.law_terms.specs.Types.{type_eq, type_of, types_of}
use Rattle.law_terms.specs.Typing.{are_elements, typed, typed_all}
use Rattle.law_terms.specs.ValueOrder.{value_cmp, ascends, sorted_values, values, set_of}
use Rattle.law_terms.proofs.Defaults.{all-join}
use Rattle.law_terms.proofs.Elements.{elements_ascend, typed_elements}
use Rattle.law_terms.proofs.Matching.{or_first, or_second}
use Rattle.law_terms.proofs.Sorted.{IsIn, one_list}
use Rattle.law_terms.proofs.SortedSets.{in-sorted, out-sorted, in-terms, terms-ascend, all-terms, one-set}
use Rattle.law_terms.proofs.SortedValues.{ascends-sorted}
use Rattle.law_terms.proofs.Soundness.{all-front, all-back}
use Rattle.law_terms.proofs.TermTotal.{types_decided}
use Rattle.law_terms.proofs.TotalOrder.{values_total}
use Rattle.law_terms.proofs.Listed.{listed, listed_again}
use Rattle.law_terms.proofs.TypeOrder.{eq_same}
use Rattle.law_terms.specs.Plain.{PlainType, PlainTerm, SetTerm, PlainTerms, no_terms, one_term, list_of_terms, terms}
use Rattle.law_terms.specs.Values.{Value, SetValue}

-- ---- lists

module _ {X : Type 0} (P : X → Type 0) where
  pub of_each : (xs : List X) → ((x : X) → IsIn x xs → P x) → AllByRecursion P xs
  of_each [] f = tt
  of_each (x ∷ xs) f = (f x (inl refl), of_each xs (λ z m. f z (inr m)))

  pub each_of : (xs : List X) → AllByRecursion P xs → (x : X) → IsIn x xs → P x
  each_of [] h x m = absurd m
  each_of (y ∷ ys) h x m = ⊎_elim (λ e. subst P (sym e) h.0) (λ n. each_of ys h.1 x n) m

-- a test that decides equality finds exactly the elements
module _ {X : Type 0} (eq : X → X → Bool) (decided : (x y : X) → Decides (eq x y) (x ≡ y)) where
  pub found : (x : X) (ys : List X) → list_any (eq x) ys ≡ true → IsIn x ys
  found x [] h = cc
  found x (y ∷ ys) h = ⊎_elim (λ e. inl ((decided x y).0 e)) (λ k. inr (found x ys k)) (or_cases (eq x y) (list_any (eq x) ys) h)

  pub find : (x : X) (ys : List X) → IsIn x ys → list_any (eq x) ys ≡ true
  find x [] m = absurd m
  find x (y ∷ ys) m = ⊎_elim (λ e. or_first (eq x y) (list_any (eq x) ys) ((decided x y).1 e)) (λ n. or_second (eq x y) (list_any (eq x) ys) (find x ys n)) m

module _ {X : Type 0} (test : X → Bool) where
  pub passed_each : (xs : List X) → list_all test xs ≡ true → AllByRecursion (λ x. test x ≡ true) xs
  passed_each [] h = tt
  passed_each (x ∷ xs) h = (first_so (test x) (list_all test xs) h, passed_each xs (second_so (test x) (list_all test xs) h))

  pub each_passed : (xs : List X) → AllByRecursion (λ x. test x ≡ true) xs → list_all test xs ≡ true
  each_passed [] h = refl
  each_passed (x ∷ xs) h = both_true h.0 (each_passed xs h.1)

  kept_out : (x z : X) (rest : List X) (b : Bool) → test x ≡ b → IsIn z (cond b (x ∷ rest) rest) → ((z ≡ x) × (test x ≡ true)) ⊎ IsIn z rest
  kept_out x z rest true e m = ⊎_elim (λ k. inl (k, e)) (λ k. inr k) m
  kept_out x z rest false e m = inr m

  -- what a filter keeps are the elements that pass
  pub kept : (z : X) (xs : List X) → IsIn z (filter test xs) → IsIn z xs × (test z ≡ true)
  kept z [] m = absurd m
  kept z (x ∷ xs) m =
      ⊎_elim (λ k. (inl k.0, ap test k.0 ∙ k.1)) (λ k. let r : IsIn z xs × (test z ≡ true) = kept z xs k in (inr r.0, r.1)) (kept_out x z (filter test xs) (test x) refl m)

  keep_first : (x z : X) (rest : List X) (b : Bool) → test x ≡ b → z ≡ x → test z ≡ true → IsIn z (cond b (x ∷ rest) rest)
  keep_first x z rest true e k h = inl k
  keep_first x z rest false e k h = cc

  keep_rest : (x z : X) (rest : List X) (b : Bool) → IsIn z rest → IsIn z (cond b (x ∷ rest) rest)
  keep_rest x z rest true m = inr m
  keep_rest x z rest false m = m

  pub keep : (z : X) (xs : List X) → IsIn z xs → test z ≡ true → IsIn z (filter test xs)
  keep z [] m h = absurd m
  keep z (x ∷ xs) m h = ⊎_elim (λ e. keep_first x z (filter test xs) (test x) refl e h) (λ n. keep_rest x z (filter test xs) (test x) (keep z xs n h)) m

  pub filtered : (P : X → Type 0) (xs : List X) → AllByRecursion P xs → AllByRecursion P (filter test xs)
  filtered P xs h = of_each P (filter test xs) (λ z m. each_of P xs h z (kept z xs m).0)

-- two truth values each of which is true where the other is
pub same_truth : (a b : Bool) → (a ≡ true → b ≡ true) → (b ≡ true → a ≡ true) → a ≡ b
same_truth true b f g = sym (f refl)
same_truth false true f g = g refl
same_truth false false f g = refl

-- ---- subterms of elements

module _ (P : PlainTerm → Type 0) where
  parted : (ts : List PlainTerm) → AllByRecursion P (subterms_of_all (terms ts)) → AllByRecursion (λ t. AllByRecursion P (subterms t)) ts
  parted [] h = tt
  parted (t ∷ ts) h = (all-front P (subterms t) (subterms_of_all (terms ts)) h, parted ts (all-back P (subterms t) (subterms_of_all (terms ts)) h))

  joined : (ts : List PlainTerm) → AllByRecursion (λ t. AllByRecursion P (subterms t)) ts → AllByRecursion P (subterms_of_all (terms ts))
  joined [] h = tt
  joined (t ∷ ts) h = all-join P (subterms t) (subterms_of_all (terms ts)) h.0 (joined ts h.1)

  -- what holds of each subterm of some terms, holds of each subterm of terms among them
  pub among_them : (ts us : List PlainTerm) → ((z : PlainTerm) → IsIn z ts → IsIn z us) → AllByRecursion P (subterms_of_all (terms us)) → AllByRecursion P (subterms_of_all (terms ts))
  among_them ts us f h =
      joined ts (of_each (λ t. AllByRecursion P (subterms t)) ts (λ z m. each_of (λ t. AllByRecursion P (subterms t)) us (parted us h) z (f z m)))

-- ---- types of elements

-- a term that may stand in a set of this element type
pub record IsElement (ty : PlainType) (t : PlainTerm) : Type 0 where
  pub parts : typed t ≡ true
  pub type : ty ≡ type_of t

typed_each : (ty : PlainType) (ts : List PlainTerm) → typed_all (terms ts) ≡ true → list_all (type_eq ty) (types_of (terms ts)) ≡ true → AllByRecursion (IsElement ty) ts
typed_each ty [] h g = tt
typed_each ty (t ∷ ts) h g = (
  record { parts = first_so (typed t) (typed_all (terms ts)) h; type = eq_same ty (type_of t) (first_so (type_eq ty (type_of t)) (list_all (type_eq ty) (types_of (terms ts))) g) },
  typed_each ty ts (second_so (typed t) (typed_all (terms ts)) h) (second_so (type_eq ty (type_of t)) (list_all (type_eq ty) (types_of (terms ts))) g),
)

pub each_typed : (ty : PlainType) (ts : List PlainTerm) → AllByRecursion (IsElement ty) ts → typed_all (terms ts) ≡ true
each_typed ty [] h = refl
each_typed ty (t ∷ ts) h = both_true h.0.parts (each_typed ty ts h.1)

each_of_type : (ty : PlainType) (ts : List PlainTerm) → AllByRecursion (IsElement ty) ts → list_all (type_eq ty) (types_of (terms ts)) ≡ true
each_of_type ty [] h = refl
each_of_type ty (t ∷ ts) h = both_true ((types_decided ty (type_of t)).1 h.0.type) (each_of_type ty ts h.1)

pub elements_typed : (ty : PlainType) (ts : PlainTerms) → typed (SetTerm ty ts) ≡ true → AllByRecursion (IsElement ty) (list_of_terms ts)
elements_typed ty ts h =
    typed_each ty (list_of_terms ts) (ap typed_all (listed_again ts) ∙ first_so (typed_all ts) (are_elements ty ts) h) (ap (λ us. list_all (type_eq ty) (types_of us)) (listed_again ts) ∙ typed_elements ty ts (second_so (typed_all ts) (are_elements ty ts) h))

-- a set of elements of its type is typed
pub set_typed : (ty : PlainType) (ts : List PlainTerm) → AllByRecursion (IsElement ty) ts → typed (set_term ty ts) ≡ true
set_typed ty ts h =
    let g : AllByRecursion (IsElement ty) (sorted_terms ts) = all-terms (IsElement ty) ts h in
    both_true (each_typed ty (sorted_terms ts) g) (both_true (each_of_type ty (sorted_terms ts) g) (ap (ascends term_cmp) (listed (sorted_terms ts)) ∙ terms-ascend ts))

-- the terms of a list are elements where its terms in order are
pub unsorted : (P : PlainTerm → Type 0) (ts : List PlainTerm) → AllByRecursion P (sorted_terms ts) → AllByRecursion P ts
unsorted P ts h = of_each P ts (λ z m. each_of P (sorted_terms ts) h z (in-terms z ts m))

-- a typed set is the set of its elements
pub set_again : (ty : PlainType) (ts : PlainTerms) → typed (SetTerm ty ts) ≡ true → set_term ty (list_of_terms ts) ≡ SetTerm ty ts
set_again ty ts h =
    let e : list_of_terms ts ≡ sorted_terms (list_of_terms ts) = one-set (list_of_terms ts) (list_of_terms ts) (elements_ascend ty ts (second_so (typed_all ts) (are_elements ty ts) h)) (λ z m. m) (λ z m. m) in
    ap (λ us. SetTerm ty (terms us)) (sym e) ∙ ap (SetTerm ty) (listed_again ts)

-- ---- values of elements

pub meaning_in : (I : Interpretation) (t : PlainTerm) (ts : List PlainTerm) → IsIn t ts → IsIn (meaning I t) (meanings I (terms ts))
meaning_in I t [] m = absurd m
meaning_in I t (u ∷ us) m = ⊎_elim (λ e. inl (ap (meaning I) e)) (λ n. inr (meaning_in I t us n)) m

-- a term of a list with a value
pub record HasValue (I : Interpretation) (ts : List PlainTerm) (v : Value) : Type 0 where
  pub term : PlainTerm
  pub inside : IsIn term ts
  pub value : v ≡ meaning I term

pub meaning_from : (I : Interpretation) (v : Value) (ts : List PlainTerm) → IsIn v (meanings I (terms ts)) → HasValue I ts v
meaning_from I v [] m = absurd m
meaning_from I v (t ∷ ts) m =
    ⊎_elim (λ e. record { term = t; inside = inl refl; value = e }) (λ n. let r : HasValue I ts v = meaning_from I v ts n in record { term = r.term; inside = inr r.inside; value = r.value }) m

-- two lists with the same values are one set
pub same_set : (vs ws : List Value) → ((v : Value) → IsIn v vs → IsIn v ws) → ((v : Value) → IsIn v ws → IsIn v vs) → set_of vs ≡ set_of ws
same_set vs ws f g =
    ap (λ l. SetValue (values l)) (one_list value_cmp values_total (sorted_values vs) (sorted_values ws) (ascends-sorted vs) (ascends-sorted ws) (λ v m. in-sorted v ws (f v (out-sorted v vs m))) (λ v m. in-sorted v vs (g v (out-sorted v ws m))))

-- two lists with the same terms have one set of values
pub same_meanings : (I : Interpretation) (ts us : List PlainTerm) → ((z : PlainTerm) → IsIn z ts → IsIn z us) → ((z : PlainTerm) → IsIn z us → IsIn z ts) → set_of (meanings I (terms ts)) ≡ set_of (meanings I (terms us))
same_meanings I ts us f g = same_set (meanings I (terms ts)) (meanings I (terms us)) (onto ts us f) (onto us ts g)
  where
    onto : (xs ys : List PlainTerm) → ((z : PlainTerm) → IsIn z xs → IsIn z ys) → (v : Value) → IsIn v (meanings I (terms xs)) → IsIn v (meanings I (terms ys))
    onto xs ys k v m = let r : HasValue I xs v = meaning_from I v xs m in subst (λ w. IsIn w (meanings I (terms ys))) (sym r.value) (meaning_in I r.term ys (k r.term r.inside))

-- ---- literals

pub literal_each : (ts : PlainTerms) → are_literals ts ≡ true → AllByRecursion (λ t. is_literal t ≡ true) (list_of_terms ts)
literal_each no_terms h = tt
literal_each (one_term t ts) h = (first_so (is_literal t) (are_literals ts) h, literal_each ts (second_so (is_literal t) (are_literals ts) h))
