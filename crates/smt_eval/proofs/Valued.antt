-- The parts of a term that has a value have values, and the literals in their places have their types.
use Rattle.std.proofs.Common.{◌≡◌, ℕ, zero, suc, ◌+◌, ◌<◌, true, List, [], ◌∷◌, ◌++◌, Some, take, get_or, length, map, Ok, Err, Result, refl, sym, ap, ◌∙◌, subst, arith}
use Rattle.std.specs.Cmp.{first_so, second_so}
use Rattle.std.specs.List.{AllByRecursion}
use Rattle.std.specs.Map.{keys_of}
use Rattle.std.specs.Prelude.{IfOk, IsTrue}
use Rattle.std.proofs.lemmas.List.{map-append, take_more}
use Rattle.std.specs.Rc.{rc_str_bytes}
use Rattle.std.specs.declared.alloc.Global.{Global}
use Rattle.std.specs.declared.rc.RcStr.{RcStr}
use Rattle.law_assignments.specs.Assignments.{PlainAssignment, interpretation}
use Rattle.law_assignments.specs.Laws.{IsLiteralFor}
use Rattle.law_assignments.specs.Covered.{Covers, gives}
use Rattle.law_assignments.specs.Evaluated.{all_evaluated, evaluated, evaluated_application, evaluated_fields}
use Rattle.law_assignments.proofs.Evaluating.{evaluated_is_the_value}
use Rattle.law_folding.specs.FoldRecords.{record_of_pairs}
use Rattle.law_terms.specs.Plain.{PlainType, PlainOp, PlainTerm, Application, RecordTerm, SetTerm, SomeTerm, one_field, record_fields, terms}
use Rattle.law_terms.specs.Reached.{subterms, subterms_of_all, subterms_of_fields}
use Rattle.law_terms.specs.TermSets.{set_term}
use Rattle.law_terms.specs.Types.{is_type, result_type, type_of, types_of}
use Rattle.law_terms.specs.Typing.{are_elements, typed, typed_all, typed_fields}
use Rattle.law_terms.specs.ValueOrder.{ascends, text_cmp}
use Rattle.law_terms.proofs.Defaults.{all-join}
use Rattle.law_terms.proofs.Soundness.{all-front, all-back, is_type-some}
use Rattle.smt_term.proofs.FormedTerms.{terms_are_formed}
use Rattle.smt_term.specs.View.{fields_of, plain_field, plain_fields, plain_term}
use Rattle.smt_term.specs.declared.maps.TermMap.{TermMap}
use Rattle.smt_term.specs.declared.term.Term.{Term}
use Rattle.smt_eval.specs.Evaluable.{AllHaveValuesIn, HasValueIn}
use Rattle.smt_term.proofs.InOrder.{pairs_in_order}

module _ (a : PlainAssignment) where
  -- ---- parts

  abbrev Given : PlainTerm → Type 0
  Given w = IsTrue (gives a w)

  -- the terms that a term reaches are its subterms
  covered_alone : (t : PlainTerm) → AllByRecursion Given (subterms t) → Covers a (t ∷ [])
  covered_alone t g = all-join Given (subterms t) [] g tt

  reached_alone : (t : PlainTerm) → Covers a (t ∷ []) → AllByRecursion Given (subterms t)
  reached_alone t c = all-front Given (subterms t) [] c

  -- a part that is typed, and all of whose subterms are given
  part_valued : (whole part : PlainTerm) → HasValueIn a whole → typed part ≡ true → AllByRecursion Given (subterms part) → HasValueIn a part
  part_valued whole part h y g = record { enums = h.enums; sound = h.sound; covered = covered_alone part g; is_typed = y }

  parts_valued : (whole : PlainTerm) → HasValueIn a whole → (ts : List PlainTerm) → typed_all (terms ts) ≡ true → AllByRecursion Given (subterms_of_all (terms ts)) → AllHaveValuesIn a ts
  parts_valued whole h [] y g = tt
  parts_valued whole h (t ∷ ts) y g = (
    part_valued whole t h (first_so (typed t) (typed_all (terms ts)) y) (all-front Given (subterms t) (subterms_of_all (terms ts)) g),
    parts_valued whole h ts (second_so (typed t) (typed_all (terms ts)) y) (all-back Given (subterms t) (subterms_of_all (terms ts)) g),
  )

  pub arguments_valued : (o : PlainOp) (ts : List PlainTerm) (ty : PlainType) → HasValueIn a (Application o (terms ts) ty) → AllHaveValuesIn a ts
  arguments_valued o ts ty h =
      parts_valued (Application o (terms ts) ty) h ts (first_so (typed_all (terms ts)) (is_type (result_type o (types_of (terms ts))) ty) h.is_typed)
      (all-front Given (subterms_of_all (terms ts)) (Application o (terms ts) ty ∷ []) (reached_alone (Application o (terms ts) ty) h.covered))

  pub elements_valued : (ty : PlainType) (ts : List PlainTerm) → HasValueIn a (SetTerm ty (terms ts)) → AllHaveValuesIn a ts
  elements_valued ty ts h =
      parts_valued (SetTerm ty (terms ts)) h ts (first_so (typed_all (terms ts)) (are_elements ty (terms ts)) h.is_typed)
      (all-front Given (subterms_of_all (terms ts)) (SetTerm ty (terms ts) ∷ []) (reached_alone (SetTerm ty (terms ts)) h.covered))

  pub inside_valued : (t : PlainTerm) → HasValueIn a (SomeTerm t) → HasValueIn a t
  inside_valued t h = part_valued (SomeTerm t) t h h.is_typed (all-front Given (subterms t) (SomeTerm t ∷ []) (reached_alone (SomeTerm t) h.covered))

  pairs_valued : (whole : PlainTerm) → HasValueIn a whole → (ps : List (List ℕ × PlainTerm)) → typed_fields (record_fields ps) ≡ true → AllByRecursion Given (subterms_of_fields (record_fields ps)) → AllHaveValuesIn a (map (λ p. p.1) ps)
  pairs_valued whole h [] y g = tt
  pairs_valued whole h (p ∷ ps) y g = (
    part_valued whole p.1 h (first_so (typed p.1) (typed_fields (record_fields ps)) y) (all-front Given (subterms p.1) (subterms_of_fields (record_fields ps)) g),
    pairs_valued whole h ps (second_so (typed p.1) (typed_fields (record_fields ps)) y) (all-back Given (subterms p.1) (subterms_of_fields (record_fields ps)) g),
  )

  pub fields_valued : (ps : List (List ℕ × PlainTerm)) → HasValueIn a (RecordTerm (record_fields ps)) → AllHaveValuesIn a (map (λ p. p.1) ps)
  fields_valued ps h = pairs_valued (RecordTerm (record_fields ps)) h ps h.is_typed (all-front Given (subterms_of_fields (record_fields ps)) (RecordTerm (record_fields ps) ∷ []) (reached_alone (RecordTerm (record_fields ps)) h.covered))

  -- ---- one of several

  pub one_valued : {A : Type 0} (view : A → PlainTerm) (xs : List A) (i : ℕ) (x : A) → AllHaveValuesIn a (map view xs) → i < length xs → x ≡ get_or xs i x → HasValueIn a (view x)
  one_valued view [] i x h l e = absurd (omega (arith, l))
  one_valued view (y ∷ ys) zero x h l e = subst (λ z. HasValueIn a (view z)) (sym e) h.0
  one_valued view (y ∷ ys) (suc i) x h l e = one_valued view ys i x h.1 (omega (arith, l)) e

  -- ---- types

  same_type : (t : Term) → HasValueIn a (plain_term t) → type_of (evaluated a (plain_term t)) ≡ type_of (plain_term t)
  same_type t h = (evaluated_is_the_value h.enums a (plain_term t) (type_of (plain_term t)) h.sound h.covered (record { parts = h.is_typed; type = refl }) (terms_are_formed t)).type.type

  types_kept : (ts : List Term) → AllHaveValuesIn a (map plain_term ts) → map type_of (map (evaluated a) (map plain_term ts)) ≡ types_of (terms (map plain_term ts))
  types_kept [] h = refl
  types_kept (t ∷ ts) h = λ i. same_type t h.0 i ∷ types_kept ts h.1 i

  -- ---- what the parts give together

  each_evaluated : (ts : List PlainTerm) → all_evaluated a (terms ts) ≡ map (evaluated a) ts
  each_evaluated [] = refl
  each_evaluated (t ∷ ts) = ap (λ rs. evaluated a t ∷ rs) (each_evaluated ts)

  module _ (o : PlainOp) (ts : List Term) (ty : PlainType) (h : HasValueIn a (Application o (terms (map plain_term ts)) ty)) (rs : List PlainTerm) (are : rs ≡ map (evaluated a) (map plain_term ts)) where
    pub takes_values : result_type o (map type_of rs) ≡ Some ty
    takes_values =
        ap (λ l. result_type o (map type_of l)) are ∙ ap (result_type o) (types_kept ts (arguments_valued o (map plain_term ts) ty h))
        ∙ is_type-some (result_type o (types_of (terms (map plain_term ts)))) ty (second_so (typed_all (terms (map plain_term ts))) (is_type (result_type o (types_of (terms (map plain_term ts)))) ty) h.is_typed)

    pub application_evaluated : evaluated_application a o rs ty ≡ evaluated a (Application o (terms (map plain_term ts)) ty)
    application_evaluated = ap (λ l. evaluated_application a o l ty) (are ∙ sym (each_evaluated (map plain_term ts)))

  pub set_evaluated : (ty : PlainType) (ts rs : List PlainTerm) → rs ≡ map (evaluated a) ts → set_term ty rs ≡ evaluated a (SetTerm ty (terms ts))
  set_evaluated ty ts rs are = ap (set_term ty) (are ∙ sym (each_evaluated ts))

  -- ---- records

  abbrev pub evaluated_pair : List ℕ × PlainTerm → List ℕ × PlainTerm
  evaluated_pair p = (p.0, evaluated a p.1)

  pairs_evaluated : (ps : List (List ℕ × PlainTerm)) → evaluated_fields a (record_fields ps) ≡ record_fields (map evaluated_pair ps)
  pairs_evaluated [] = refl
  pairs_evaluated (p ∷ ps) = ap (one_field p.0 (evaluated a p.1)) (pairs_evaluated ps)

  keys_stay : (ps : List (RcStr Global × Term)) → keys_of (map evaluated_pair (map plain_field ps)) ≡ map (λ p. rc_str_bytes p.0) ps
  keys_stay [] = refl
  keys_stay (p ∷ ps) = ap (λ l. rc_str_bytes p.0 ∷ l) (keys_stay ps)

  pub record_evaluated : (fields : TermMap) (rs : List (List ℕ × PlainTerm)) → rs ≡ map evaluated_pair (plain_fields fields) → record_of_pairs rs ≡ evaluated a (RecordTerm (record_fields (plain_fields fields)))
  record_evaluated fields rs are =
      ap record_of_pairs are
      ∙ ap (λ ps. RecordTerm (record_fields ps)) (pairs_in_order text_cmp (map evaluated_pair (plain_fields fields)) (ap (ascends text_cmp) (keys_stay (fields_of fields)) ∙ fields.pairs.ascending))
      ∙ ap RecordTerm (sym (pairs_evaluated (plain_fields fields)))

-- what holds of a result, onward
onward : {A E : Type 0} {P Q : A → Type 0} (r : Result A E) → IfOk r P → ((x : A) → P x → Q x) → IfOk r Q
onward (Ok x) h f = f x h
onward (Err e) h f = tt

module _ (a : PlainAssignment) where
  -- ---- the cases of a term

  pub of_application : {E : Type 0} (o : PlainOp) (ts : List Term) (ty : PlainType) (t : PlainTerm) (rs : List PlainTerm) (r : Result Term E) → HasValueIn a t → t ≡ Application o (terms (map plain_term ts)) ty
      → (AllHaveValuesIn a (map plain_term ts) → rs ≡ map (evaluated a) (map plain_term ts)) → (result_type o (map type_of rs) ≡ Some ty → IfOk r (λ x. plain_term x ≡ evaluated_application a o rs ty)) → IfOk r (λ x. plain_term x ≡ evaluated a t)
  of_application o ts ty t rs r h shape values applied =
      let g : HasValueIn a (Application o (terms (map plain_term ts)) ty) = subst (λ (x : PlainTerm). HasValueIn a x) shape h in
      let are = values (arguments_valued a o (map plain_term ts) ty g) in
      onward r (applied (takes_values a o ts ty g rs are)) (λ x e. e ∙ application_evaluated a o ts ty g rs are ∙ ap (evaluated a) (sym shape))

  pub of_set : (ty : PlainType) (ts : List PlainTerm) (t : PlainTerm) (rs : List PlainTerm) → HasValueIn a t → t ≡ SetTerm ty (terms ts) → (AllHaveValuesIn a ts → rs ≡ map (evaluated a) ts) → set_term ty rs ≡ evaluated a t
  of_set ty ts t rs h shape values =
      set_evaluated a ty ts rs (values (elements_valued a ty ts (subst (λ (x : PlainTerm). HasValueIn a x) shape h))) ∙ ap (evaluated a) (sym shape)

  pub of_some : (t whole r : PlainTerm) → HasValueIn a whole → whole ≡ SomeTerm t → (HasValueIn a t → r ≡ evaluated a t) → SomeTerm r ≡ evaluated a whole
  of_some t whole r h shape value = ap SomeTerm (value (inside_valued a t (subst (λ (x : PlainTerm). HasValueIn a x) shape h))) ∙ ap (evaluated a) (sym shape)

  -- ---- several, one after the other

  pub one_more_value : (all : List Term) (i : ℕ) (x : Term) (done new : List Term) (r : Term) → AllHaveValuesIn a (map plain_term all) → i < length all → x ≡ get_or all i x
      → map plain_term done ≡ map (evaluated a) (map plain_term (take i all)) → (HasValueIn a (plain_term x) → plain_term r ≡ evaluated a (plain_term x)) → new ≡ done ++ r ∷ [] → map plain_term new ≡ map (evaluated a) (map plain_term (take (i + 1) all))
  one_more_value all i x done new r h l at before value is =
      ap (map plain_term) is
      ∙ map-append plain_term done (r ∷ [])
      ∙ (λ j. before j ++ value (one_valued a plain_term all i x h l at) j ∷ [])
      ∙ sym (map-append (evaluated a) (map plain_term (take i all)) (plain_term x ∷ []))
      ∙ ap (map (evaluated a)) (sym (map-append plain_term (take i all) (x ∷ [])))
      ∙ ap (λ (ts : List Term). map (evaluated a) (map plain_term ts)) (ap (λ (y : Term). take i all ++ y ∷ []) at ∙ sym (take_more all i x l))

  terms_apart : (ps : List (RcStr Global × Term)) → AllHaveValuesIn a (map (λ p. p.1) (map plain_field ps)) → AllHaveValuesIn a (map (λ p. plain_term p.1) ps)
  terms_apart [] h = tt
  terms_apart (p ∷ ps) h = (h.0, terms_apart ps h.1)

  pub one_more_field : (all : List (RcStr Global × Term)) (i : ℕ) (x : RcStr Global × Term) (done new : List (RcStr Global × Term)) (r : RcStr Global × Term) → HasValueIn a (RecordTerm (record_fields (map plain_field all))) → i < length all → x ≡ get_or all i x
      → map plain_field done ≡ map (evaluated_pair a) (map plain_field (take i all)) → rc_str_bytes r.0 ≡ rc_str_bytes x.0 → (HasValueIn a (plain_term x.1) → plain_term r.1 ≡ evaluated a (plain_term x.1)) → new ≡ done ++ r ∷ []
      → map plain_field new ≡ map (evaluated_pair a) (map plain_field (take (i + 1) all))
  one_more_field all i x done new r h l at before same value is =
      let here = value (one_valued a (λ (p : RcStr Global × Term). plain_term p.1) all i x (terms_apart all (fields_valued a (map plain_field all) h)) l at) in
      ap (map plain_field) is
      ∙ map-append plain_field done (r ∷ [])
      ∙ (λ j. before j ++ (same j, here j) ∷ [])
      ∙ sym (map-append (evaluated_pair a) (map plain_field (take i all)) (plain_field x ∷ []))
      ∙ ap (map (evaluated_pair a)) (sym (map-append plain_field (take i all) (x ∷ [])))
      ∙ ap (λ (ps : List (RcStr Global × Term)). map (evaluated_pair a) (map plain_field ps)) (ap (λ (y : RcStr Global × Term). take i all ++ y ∷ []) at ∙ sym (take_more all i x l))

  -- ---- the value

  pub as_literal : {E : Type 0} (t : Term) (r : Result Term E) → HasValueIn a (plain_term t) → IfOk r (λ x. plain_term x ≡ evaluated a (plain_term t)) → IfOk r (λ x. IsLiteralFor (interpretation a) (plain_term t) (type_of (plain_term t)) (plain_term x))
  as_literal t r h e =
      onward r e (λ x same. subst (λ (y : PlainTerm). IsLiteralFor (interpretation a) (plain_term t) (type_of (plain_term t)) y) (sym same)
      (evaluated_is_the_value h.enums a (plain_term t) (type_of (plain_term t)) h.sound h.covered (record { parts = h.is_typed; type = refl }) (terms_are_formed t)))
