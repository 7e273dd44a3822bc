-- What something stands for determines its label and what its parts stand for.
use Rattle.std.proofs.Common.{◌≡◌, ℕ, List, [], ◌∷◌, map, refl, sym, ap, ◌∙◌, subst}
use Rattle.std.specs.Bool.{then_some}
use Rattle.std.specs.Prelude.{Some, option_and_then, option_map}
use Rattle.law_terms.specs.Plain.{PlainType, OptionType, RecordType, SetType, AttributeTypes, no_attributes, attribute, UufOp, PlainTerm, Application, RecordTerm, SetTerm, PlainFields, no_fields, one_field, terms, list_of_terms}
use Rattle.law_terms.specs.TermOrder.{term_cmp}
use Rattle.law_terms.specs.Types.{type_eq, type_of}
use Rattle.law_terms.specs.ValueOrder.{ascends, text_cmp}
use Rattle.law_terms.proofs.TermTotal.{types_decided}
use Rattle.law_terms.specs.Meanings.{attributes_in, fields_in, only_if, stands_for, term_made, terms_in, typed_as}
use Rattle.law_terms.specs.Nodes.{PlainLabel, OptionLabel, BitVecLabel, BoolLabel, EntityLabel, ExtensionLabel, StringLabel, RecordLabel, SetLabel, FunctionLabel, ApplicationLabel, CallLabel, NoneLabel, LiteralLabel, RecordOfLabel, SetOfLabel, SomeLabel, VariableLabel, Meaning, TypeMeaning, FunctionMeaning, TermMeaning}
use Rattle.law_terms.specs.Parts.{field_names, field_terms, label_in, parts_in, term_label, term_parts, types_in, attribute_names}
use Rattle.law_terms.proofs.Places.{map_back, only_back, some_same, test_back, then_back}

-- it is whole: label and parts are those of what it stands for
abbrev IsWhole : PlainLabel → List Meaning → Meaning → Type 0
IsWhole l ms m = (l ≡ label_in m) × (ms ≡ parts_in m)

abbrev IsWholeTerm : PlainLabel → List Meaning → PlainTerm → Type 0
IsWholeTerm l ms u = (l ≡ term_label u) × (ms ≡ term_parts u)

pub round : (ts : List PlainTerm) → list_of_terms (terms ts) ≡ ts
round [] = refl
round (t ∷ ts) = ap (λ us. t ∷ us) (round ts)

pub terms_back : (ms : List Meaning) (ts : List PlainTerm) → terms_in ms ≡ Some ts → ms ≡ map TermMeaning ts
terms_back [] ts h = ap (map TermMeaning) (some_same [] ts h)
terms_back (TermMeaning t ∷ ms) ts h =
    let (us, e, d) = map_back (λ us. t ∷ us) (terms_in ms) ts h in ap (λ x. TermMeaning t ∷ x) (terms_back ms us e) ∙ ap (map TermMeaning) d
terms_back ms ts h = cc

-- the same of terms as they stand in a term
items_back : (ms : List Meaning) (ts : List PlainTerm) → terms_in ms ≡ Some ts → ms ≡ map TermMeaning (list_of_terms (terms ts))
items_back ms ts h = terms_back ms ts h ∙ ap (map TermMeaning) (sym (round ts))

attributes_back : (names : List (List ℕ)) (ms : List Meaning) (x : AttributeTypes) → attributes_in names ms ≡ Some x → (names ≡ attribute_names x) × (ms ≡ types_in x)
attributes_back [] [] x h = let P : AttributeTypes → Type 0 = λ y. ([] ≡ attribute_names y) × ([] ≡ types_in y) in subst P (some_same no_attributes x h) (refl, refl)
attributes_back (a ∷ names) (TypeMeaning t ∷ ms) x h =
    let (y, e, d) = map_back (attribute a t) (attributes_in names ms) x h in
    let (p, q) = attributes_back names ms y e in
    let P : AttributeTypes → Type 0 = λ y. (a ∷ names ≡ attribute_names y) × (TypeMeaning t ∷ ms ≡ types_in y) in
    subst P d (ap (λ z. a ∷ z) p, ap (λ z. TypeMeaning t ∷ z) q)
attributes_back names ms x h = absurd (cc)

pub fields_back : (names : List (List ℕ)) (ms : List Meaning) (x : PlainFields) → fields_in names ms ≡ Some x → (names ≡ field_names x) × (ms ≡ field_terms x)
fields_back [] [] x h = let P : PlainFields → Type 0 = λ y. ([] ≡ field_names y) × ([] ≡ field_terms y) in subst P (some_same no_fields x h) (refl, refl)
fields_back (a ∷ names) (TermMeaning t ∷ ms) x h =
    let (y, e, d) = map_back (one_field a t) (fields_in names ms) x h in
    let (p, q) = fields_back names ms y e in
    let P : PlainFields → Type 0 = λ y. (a ∷ names ≡ field_names y) × (TermMeaning t ∷ ms ≡ field_terms y) in
    subst P d (ap (λ z. a ∷ z) p, ap (λ z. TermMeaning t ∷ z) q)
fields_back names ms x h = absurd (cc)

record_whole : (names : List (List ℕ)) (ms : List Meaning) (u : PlainTerm) → only_if (ascends text_cmp names) (option_map RecordTerm (fields_in names ms)) ≡ Some u → IsWholeTerm (RecordOfLabel names) ms u
record_whole names ms u h =
    let (b, k) = only_back (ascends text_cmp names) (option_map RecordTerm (fields_in names ms)) u h in
    let (x, e, d) = map_back RecordTerm (fields_in names ms) u k in
    let (p, q) = fields_back names ms x e in
    subst (IsWholeTerm (RecordOfLabel names) ms) d (ap RecordOfLabel p, q)

set_whole : (t : PlainType) (ms : List Meaning) (u : PlainTerm) → option_and_then (λ ts. then_some (ascends term_cmp ts) (SetTerm t (terms ts))) (terms_in ms) ≡ Some u → IsWholeTerm SetOfLabel ms u
set_whole t ms u h =
    let (ts, e, d) = then_back (λ ts. then_some (ascends term_cmp ts) (SetTerm t (terms ts))) (terms_in ms) u h in
    let (b, k) = test_back (ascends term_cmp ts) (SetTerm t (terms ts)) u d in
    subst (IsWholeTerm SetOfLabel ms) k (refl, items_back ms ts e)

-- a term's
term_whole : (l : PlainLabel) (t : PlainType) (ms : List Meaning) (u : PlainTerm) → term_made l t ms ≡ Some u → IsWholeTerm l ms u
term_whole (ApplicationLabel (UufOp f)) t ms u h = absurd (cc)
term_whole (ApplicationLabel o) t ms u h =
    let (ts, e, d) = map_back (λ ts. Application o (terms ts) t) (terms_in ms) u h in subst (IsWholeTerm (ApplicationLabel o) ms) d (refl, items_back ms ts e)
term_whole CallLabel t (FunctionMeaning f ∷ ms) u h =
    let (ts, e, d) = map_back (λ ts. Application (UufOp f) (terms ts) t) (terms_in ms) u h in
    subst (IsWholeTerm CallLabel (FunctionMeaning f ∷ ms)) d (refl, ap (λ z. FunctionMeaning f ∷ z) (items_back ms ts e))
term_whole NoneLabel (OptionType t) [] u h = subst (IsWholeTerm NoneLabel []) (some_same _ _ h) (refl, refl)
term_whole (LiteralLabel l) t [] u h = subst (IsWholeTerm (LiteralLabel l) []) (some_same _ _ h) (refl, refl)
term_whole (RecordOfLabel names) t ms u h = record_whole names ms u h
term_whole SetOfLabel (SetType t) ms u h = set_whole t ms u h
term_whole SomeLabel t (TermMeaning v ∷ []) u h = subst (IsWholeTerm SomeLabel (TermMeaning v ∷ [])) (some_same _ _ h) (refl, refl)
term_whole (VariableLabel id) t [] u h = subst (IsWholeTerm (VariableLabel id) []) (some_same _ _ h) (refl, refl)
term_whole l t ms u h = absurd (cc)

-- a term's first part is its type
pub typed_back : (l : PlainLabel) (t : PlainType) (ms : List Meaning) (m : Meaning) → option_and_then (typed_as t) (term_made l t ms) ≡ Some m → (u : PlainTerm) × (term_made l t ms ≡ Some u) × (type_of u ≡ t) × (TermMeaning u ≡ m)
typed_back l t ms m h =
    let (u, e, d) = then_back (typed_as t) (term_made l t ms) m h in
    let (b, k) = test_back (type_eq (type_of u) t) (TermMeaning u) m d in
    (u, e, (types_decided (type_of u) t).0 b, k)

typed_whole : (l : PlainLabel) (t : PlainType) (ms : List Meaning) (m : Meaning) → option_and_then (typed_as t) (term_made l t ms) ≡ Some m → IsWhole l (TypeMeaning t ∷ ms) m
typed_whole l t ms m h =
    let (u, e, s, k) = typed_back l t ms m h in
    let (p, q) = term_whole l t ms u e in
    subst (IsWhole l (TypeMeaning t ∷ ms)) k (p, ap (λ z. TypeMeaning z ∷ ms) (sym s) ∙ ap (λ z. TypeMeaning (type_of u) ∷ z) q)

attributes_whole : (names : List (List ℕ)) (ms : List Meaning) (m : Meaning) → only_if (ascends text_cmp names) (option_map (λ x. TypeMeaning (RecordType x)) (attributes_in names ms)) ≡ Some m → IsWhole (RecordLabel names) ms m
attributes_whole names ms m h =
    let (b, k) = only_back (ascends text_cmp names) (option_map (λ x. TypeMeaning (RecordType x)) (attributes_in names ms)) m h in
    let (x, e, d) = map_back (λ x. TypeMeaning (RecordType x)) (attributes_in names ms) m k in
    let (p, q) = attributes_back names ms x e in
    subst (IsWhole (RecordLabel names) ms) d (ap RecordLabel p, q)

pub whole : (l : PlainLabel) (ms : List Meaning) (m : Meaning) → stands_for l ms ≡ Some m → (l ≡ label_in m) × (ms ≡ parts_in m)
whole OptionLabel (TypeMeaning t ∷ []) m h = subst (IsWhole OptionLabel (TypeMeaning t ∷ [])) (some_same _ _ h) (refl, refl)
whole (BitVecLabel n) [] m h = subst (IsWhole (BitVecLabel n) []) (some_same _ _ h) (refl, refl)
whole BoolLabel [] m h = subst (IsWhole BoolLabel []) (some_same _ _ h) (refl, refl)
whole (EntityLabel e) [] m h = subst (IsWhole (EntityLabel e) []) (some_same _ _ h) (refl, refl)
whole (ExtensionLabel k) [] m h = subst (IsWhole (ExtensionLabel k) []) (some_same _ _ h) (refl, refl)
whole StringLabel [] m h = subst (IsWhole StringLabel []) (some_same _ _ h) (refl, refl)
whole (RecordLabel names) ms m h = attributes_whole names ms m h
whole SetLabel (TypeMeaning t ∷ []) m h = subst (IsWhole SetLabel (TypeMeaning t ∷ [])) (some_same _ _ h) (refl, refl)
whole (FunctionLabel id) (TypeMeaning t ∷ TypeMeaning u ∷ []) m h = subst (IsWhole (FunctionLabel id) (TypeMeaning t ∷ TypeMeaning u ∷ [])) (some_same _ _ h) (refl, refl)
whole l (TypeMeaning t ∷ ms) m h = typed_whole l t ms m h
whole l ms m h = absurd (cc)
