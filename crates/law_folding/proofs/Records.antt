-- Records of terms that stand for others, and lists of such terms.
use Rattle.std.proofs.Common.{◌≡◌, true, List, [], ◌∷◌, map, refl, ap, ◌∙◌, sym, subst}
use Rattle.std.specs.Prelude.{IsTrue, Option, IfSome, Contains}
use Rattle.std.specs.Cmp.{first_so, second_so}
use Rattle.std.specs.Cmp.Derive.{both_true}
use Rattle.std.specs.List.{AllByRecursion, AllZip, filter_map}
use Rattle.law_folding.specs.Refinement.{AreAmong, Refines, FieldsRefine}
use Rattle.law_folding.proofs.Reaching.{IsBrought, brought_itself, among_brought, through, interpreted}
use Rattle.law_folding.proofs.Standing.{Given, StandAmong, valued, same_type, same_meaning, last_of}
use Rattle.law_terms.specs.Formed.{IsFormedHere, IsFormedType, IsFormedNode, IsFormed}
use Rattle.law_terms.specs.Parts.{attribute_names}
use Rattle.law_terms.specs.Interpretations.{IsGiven, IsInterpretation}
use Rattle.law_terms.specs.Meaning.{meaning, field_meanings, term_value}
use Rattle.law_terms.specs.Reached.{subterms, subterms_of_fields, reached_terms, types_within, types_within_attributes, reached_variable, reached_function, opened_of, selector_of}
use Rattle.law_terms.specs.Tables.{Interpretation}
use Rattle.law_terms.specs.Types.{type_of, field_types}
use Rattle.law_terms.specs.Typing.{typed, typed_fields}
use Rattle.law_terms.specs.TypeValues.{Enums}
use Rattle.law_terms.specs.ValueOrder.{text_cmp, ascends}
use Rattle.law_terms.proofs.Defaults.{all-join}
use Rattle.law_terms.proofs.Soundness.{all-front, all-back, all-last}
use Rattle.law_terms.specs.Plain.{RecordType, attribute, PlainTerm, RecordTerm, PlainFields, no_fields, one_field}
use Rattle.law_terms.specs.Values.{RecordValue, one_field_value}

abbrev pub HasFormedType : PlainTerm → Type 0
HasFormedType w = IsFormedType (type_of w)

-- ---- fields

formed_fields : (fs gs : PlainFields) → FieldsRefine fs gs → AllByRecursion IsFormedNode (subterms_of_fields gs) → AllByRecursion HasFormedType (subterms_of_fields gs) → AllByRecursion IsFormedNode (subterms_of_fields fs) × AllByRecursion HasFormedType (subterms_of_fields fs)
formed_fields no_fields no_fields s h g = (tt, tt)
formed_fields no_fields (one_field b u gs) s h g = elim s [ ]
formed_fields (one_field a t fs) no_fields s h g = elim s [ ]
formed_fields (one_field a t fs) (one_field b u gs) s h g =
    let f : IsFormed t = s.1.formed (record { literals = all-front IsFormedNode (subterms u) (subterms_of_fields gs) h; types = all-front HasFormedType (subterms u) (subterms_of_fields gs) g }) in
    let r = formed_fields fs gs s.2 (all-back IsFormedNode (subterms u) (subterms_of_fields gs) h) (all-back HasFormedType (subterms u) (subterms_of_fields gs) g) in
    (all-join IsFormedNode (subterms t) (subterms_of_fields fs) f.literals r.0, all-join HasFormedType (subterms t) (subterms_of_fields fs) f.types r.1)

-- the types of fields, by the fields
types_formed : (fs : PlainFields) → AllByRecursion HasFormedType (subterms_of_fields fs) → AllByRecursion IsFormedHere (types_within_attributes (field_types fs))
types_formed no_fields h = tt
types_formed (one_field a t fs) h =
    all-join IsFormedHere (types_within (type_of t)) (types_within_attributes (field_types fs)) (last_of HasFormedType t (all-front HasFormedType (subterms t) (subterms_of_fields fs) h)) (types_formed fs (all-back HasFormedType (subterms t) (subterms_of_fields fs) h))

names_same : (fs gs : PlainFields) → FieldsRefine fs gs → attribute_names (field_types fs) ≡ attribute_names (field_types gs)
names_same no_fields no_fields s = refl
names_same no_fields (one_field b u gs) s = elim s [ ]
names_same (one_field a t fs) no_fields s = elim s [ ]
names_same (one_field a t fs) (one_field b u gs) s =
    let p : a ≡ b = s.0 in
    let q : attribute_names (field_types fs) ≡ attribute_names (field_types gs) = names_same fs gs s.2 in
    λ i. p i ∷ q i

types_of_fields : (fs gs : PlainFields) → FieldsRefine fs gs → typed_fields gs ≡ true → (typed_fields fs ≡ true) × (field_types fs ≡ field_types gs)
types_of_fields no_fields no_fields s h = (refl, refl)
types_of_fields no_fields (one_field b u gs) s h = elim s [ ]
types_of_fields (one_field a t fs) no_fields s h = elim s [ ]
types_of_fields (one_field a t fs) (one_field b u gs) s h =
    let x : (typed t ≡ true) × (type_of t ≡ type_of u) = same_type t u s.1 (first_so (typed u) (typed_fields gs) h) in
    let y : (typed_fields fs ≡ true) × (field_types fs ≡ field_types gs) = types_of_fields fs gs s.2 (second_so (typed u) (typed_fields gs) h) in
    let o : a ≡ b = s.0 in
    let p : type_of t ≡ type_of u = x.1 in
    let q : field_types fs ≡ field_types gs = y.1 in
    (both_true x.0 y.0, λ i. attribute (o i) (p i) (q i))

meanings_of_fields : (enums : Enums) (I : Interpretation) (fs gs : PlainFields) → FieldsRefine fs gs → typed_fields gs ≡ true → AllByRecursion IsFormedNode (subterms_of_fields gs) → AllByRecursion HasFormedType (subterms_of_fields gs) → AllByRecursion (IsGiven enums I) (subterms_of_fields gs) → field_meanings I fs ≡ field_meanings I gs
meanings_of_fields enums I no_fields no_fields s h f g i = refl
meanings_of_fields enums I no_fields (one_field b u gs) s h f g i = elim s [ ]
meanings_of_fields enums I (one_field a t fs) no_fields s h f g i = elim s [ ]
meanings_of_fields enums I (one_field a t fs) (one_field b u gs) s h f g i =
    let o : a ≡ b = s.0 in
    let p : meaning I t ≡ meaning I u = same_meaning t u s.1 enums I (first_so (typed u) (typed_fields gs) h) (record { literals = all-front IsFormedNode (subterms u) (subterms_of_fields gs) f; types = all-front HasFormedType (subterms u) (subterms_of_fields gs) g }) (all-front (IsGiven enums I) (subterms u) (subterms_of_fields gs) i) in
    let q : field_meanings I fs ≡ field_meanings I gs = meanings_of_fields enums I fs gs s.2 (second_so (typed u) (typed_fields gs) h) (all-back IsFormedNode (subterms u) (subterms_of_fields gs) f) (all-back HasFormedType (subterms u) (subterms_of_fields gs) g) (all-back (IsGiven enums I) (subterms u) (subterms_of_fields gs) i) in
    λ j. one_field_value (o j) (p j) (q j)

module _ {Y : Type 0} (f : PlainTerm → Option Y) (one : StandAmong f) where
  fields_through : (Q : Y → Type 0) (fs gs : PlainFields) → FieldsRefine fs gs → AllByRecursion (λ w. IfSome (f w) Q) (subterms_of_fields gs) → AllByRecursion (λ w. IfSome (f w) Q) (subterms_of_fields fs)
  fields_through Q no_fields no_fields s h = tt
  fields_through Q no_fields (one_field b u gs) s h = elim s [ ]
  fields_through Q (one_field a t fs) no_fields s h = elim s [ ]
  fields_through Q (one_field a t fs) (one_field b u gs) s h =
      all-join (λ w. IfSome (f w) Q) (subterms t) (subterms_of_fields fs) (through f Q t u (one t u s.1) (all-front (λ w. IfSome (f w) Q) (subterms u) (subterms_of_fields gs) h)) (fields_through Q fs gs s.2 (all-back (λ w. IfSome (f w) Q) (subterms u) (subterms_of_fields gs) h))

  record_among : (fs gs : PlainFields) → FieldsRefine fs gs → f (RecordTerm fs) ≡ f (RecordTerm gs) → AreAmong (filter_map f (reached_terms (RecordTerm fs ∷ []))) (filter_map f (reached_terms (RecordTerm gs ∷ [])))
  record_among fs gs s e =
      let h : AllByRecursion (IsBrought f (RecordTerm gs)) (subterms (RecordTerm gs)) = brought_itself f (RecordTerm gs) in
      among_brought f (RecordTerm fs) (RecordTerm gs) (all-join (IsBrought f (RecordTerm gs)) (subterms_of_fields fs) (RecordTerm fs ∷ [])
      (fields_through (Contains (filter_map f (reached_terms (RecordTerm gs ∷ [])))) fs gs s (all-front (IsBrought f (RecordTerm gs)) (subterms_of_fields gs) (RecordTerm gs ∷ []) h))
      (subst (λ b. IfSome b (Contains (filter_map f (reached_terms (RecordTerm gs ∷ []))))) (sym e) (all-last (IsBrought f (RecordTerm gs)) (subterms_of_fields gs) (RecordTerm gs) h), tt))

-- ---- records

formed_record : (fs gs : PlainFields) → FieldsRefine fs gs → IsFormed (RecordTerm gs) → IsFormed (RecordTerm fs)
formed_record fs gs s f =
    let r = formed_fields fs gs s (all-front IsFormedNode (subterms_of_fields gs) (RecordTerm gs ∷ []) f.literals) (all-front HasFormedType (subterms_of_fields gs) (RecordTerm gs ∷ []) f.types) in
    let n : IsTrue (ascends text_cmp (attribute_names (field_types gs))) = all-last IsFormedHere (types_within_attributes (field_types gs)) (RecordType (field_types gs)) (last_of HasFormedType (RecordTerm gs) f.types) in
    let t : IsFormedType (RecordType (field_types fs)) = all-join IsFormedHere (types_within_attributes (field_types fs)) (RecordType (field_types fs) ∷ []) (types_formed fs r.1) (subst (λ l. IsTrue (ascends text_cmp l)) (sym (names_same fs gs s)) n, tt) in
    record { literals = all-join IsFormedNode (subterms_of_fields fs) (RecordTerm fs ∷ []) r.0 (tt, tt); types = all-join HasFormedType (subterms_of_fields fs) (RecordTerm fs ∷ []) r.1 (t, tt) }

pub fields : (fs gs : PlainFields) → FieldsRefine fs gs → Refines (RecordTerm fs) (RecordTerm gs)
fields fs gs s = record {
  formed = formed_record fs gs s;
  type = λ ty h. (let r = types_of_fields fs gs s h.parts in record { parts = r.0; type = ap RecordType r.1 ∙ h.type });
  variables = record_among reached_variable (λ t u s. s.variables) fs gs s refl;
  functions = record_among reached_function (λ t u s. s.functions) fs gs s refl;
  options = record_among opened_of (λ t u s. s.options) fs gs s refl;
  selectors = record_among selector_of (λ t u s. s.selectors) fs gs s refl;
  value = λ ty enums I f h i. (
      let r = types_of_fields fs gs s h.parts in
      let g : Given enums I (RecordTerm gs) = all-front (IsGiven enums I) (subterms (RecordTerm gs)) [] i in
      valued I (RecordTerm fs) r.0 ∙ (ap RecordValue (meanings_of_fields enums I fs gs s h.parts (all-front IsFormedNode (subterms_of_fields gs) (RecordTerm gs ∷ []) f.literals) (all-front HasFormedType (subterms_of_fields gs) (RecordTerm gs ∷ []) f.types) (all-front (IsGiven enums I) (subterms_of_fields gs) (RecordTerm gs ∷ []) g)) ∙ sym (valued I (RecordTerm gs) h.parts)));
}

-- ---- lists of terms

pub interpretations : (enums : Enums) (I : Interpretation) (ts us : List PlainTerm) → AllZip Refines ts us → IsInterpretation enums us I → IsInterpretation enums ts I
interpretations enums I [] [] z g = tt
interpretations enums I [] (u ∷ us) z g = elim z [ ]
interpretations enums I (t ∷ ts) [] z g = elim z [ ]
interpretations enums I (t ∷ ts) (u ∷ us) z g =
    all-join (IsGiven enums I) (subterms t) (reached_terms ts) (interpreted enums I t u z.0.variables z.0.functions z.0.options z.0.selectors (all-front (IsGiven enums I) (subterms u) (reached_terms us) g)) (interpretations enums I ts us z.1 (all-back (IsGiven enums I) (subterms u) (reached_terms us) g))

pub values : (enums : Enums) (I : Interpretation) (ts us : List PlainTerm) → AllZip Refines ts us → AllByRecursion IsFormed us → AllByRecursion (λ u. IsTrue (typed u)) us → IsInterpretation enums us I → map (term_value I) ts ≡ map (term_value I) us
values enums I [] [] z f h g = refl
values enums I [] (u ∷ us) z f h g = elim z [ ]
values enums I (t ∷ ts) [] z f h g = elim z [ ]
values enums I (t ∷ ts) (u ∷ us) z f h g =
    let p : term_value I t ≡ term_value I u = z.0.value (type_of u) enums I f.0 (record { parts = h.0; type = refl }) (all-join (IsGiven enums I) (subterms u) [] (all-front (IsGiven enums I) (subterms u) (reached_terms us) g) tt) in
    let q : map (term_value I) ts ≡ map (term_value I) us = values enums I ts us z.1 f.1 h.1 (all-back (IsGiven enums I) (subterms u) (reached_terms us) g) in
    λ i. p i ∷ q i
