-- Typed literals of one type with one value are one term.
use Rattle.std.proofs.Common.{◌≡◌, ℕ, true, false, List, [], ◌∷◌, refl, ap, ◌∙◌, sym, subst}
use Rattle.std.specs.Prelude.{nat_lt, unwrap_or, IsUtf8}
use Rattle.std.specs.Cmp.{first_so, second_so}
use Rattle.law_terms.proofs.TermTotal.{terms_total}
use Rattle.std.specs.List.{AllByRecursion, list_all}
use Rattle.std.specs.Str.{chars}
use Rattle.std.proofs.Math.Utf8.{encodes}
use Rattle.std.proofs.lemmas.Str.{encodes-chars}
use mathlib.Core.Logic.{inl, inr, ⊎_elim}
use Rattle.law_terms.specs.Formed.{IsFormedLiteral, IsFormedNode}
use Rattle.law_terms.specs.Literals.{is_literal, are_literals, are_literal_fields}
use Rattle.law_terms.specs.Meaning.{literal_value, meaning, meanings, field_meanings}
use Rattle.law_terms.specs.Operators.{truth, width, number, characters, elements, value_inside}
use Rattle.law_terms.specs.Reached.{subterms, subterms_of_all, subterms_of_fields}
use Rattle.law_terms.specs.Tables.{Interpretation}
use Rattle.law_terms.specs.TermOrder.{term_cmp}
use Rattle.law_terms.specs.Types.{inner_type, type_eq, type_of, field_types, types_of}
use Rattle.law_terms.specs.Typing.{are_elements, typed, typed_all, typed_fields}
use Rattle.law_terms.proofs.Elements.{elements_ascend, typed_elements}
use Rattle.law_terms.specs.ValueOrder.{value_place, sorted_values, set_of}
use Rattle.law_terms.proofs.Sorted.{IsIn, one_list}
use Rattle.law_terms.proofs.SortedSets.{in-sorted, out-sorted}
use Rattle.law_terms.proofs.SortedValues.{list-values}
use Rattle.law_terms.proofs.Soundness.{all-front, all-back}
use Rattle.law_terms.proofs.TypeOrder.{eq_same}
use Rattle.law_terms.specs.Plain.{PlainType, BoolType, RecordType, SetType, AttributeTypes, no_attributes, attribute, PlainExtension, PlainLiteral, BitVecLiteral, BoolLiteral, EntityLiteral, ExtensionLiteral, StringLiteral, PlainTerm, NoneTerm, LiteralTerm, RecordTerm, SetTerm, SomeTerm, PlainTerms, no_terms, one_term, PlainFields, no_fields, one_field, terms, list_of_terms}
use Rattle.law_terms.specs.Values.{Value, EntityValue, ExtensionValue, NoneValue, SomeValue, RecordValue, FieldValues, no_field_values, one_field_value}
use Rattle.law_terms.proofs.Listed.{listed_again}

-- ---- parts

entity_type : Value → List ℕ
entity_type (EntityValue e i) = e
entity_type v = []

entity_id : Value → List ℕ
entity_id (EntityValue e i) = i
entity_id v = []

abbrev extension_of : PlainExtension → Value → PlainExtension
extension_of x (ExtensionValue y) = y
extension_of x v = x

abbrev fields_of : Value → FieldValues
fields_of (RecordValue fs) = fs
fields_of v = no_field_values

abbrev first_name : FieldValues → List ℕ
first_name no_field_values = []
first_name (one_field_value a v fs) = a

abbrev first_value : FieldValues → Value
first_value no_field_values = NoneValue
first_value (one_field_value a v fs) = v

abbrev rest_values : FieldValues → FieldValues
rest_values no_field_values = no_field_values
rest_values (one_field_value a v fs) = fs

abbrev attributes_of : PlainType → AttributeTypes
attributes_of (RecordType x) = x
attributes_of t = no_attributes

abbrev first_type : AttributeTypes → PlainType
first_type no_attributes = BoolType
first_type (attribute a t x) = t

abbrev rest_types : AttributeTypes → AttributeTypes
rest_types no_attributes = no_attributes
rest_types (attribute a t x) = x

abbrev element_type : PlainType → PlainType
element_type (SetType t) = t
element_type t = t

utf8_same : (s t : List ℕ) → IsUtf8 s → IsUtf8 t → chars s ≡ chars t → s ≡ t
utf8_same s t u v e = sym (encodes-chars s u) ∙ (ap encodes e ∙ encodes-chars t v)

literal_same : (l m : PlainLiteral) → IsFormedLiteral l → IsFormedLiteral m → literal_value l ≡ literal_value m → l ≡ m
unfolding entity_type entity_id
literal_same (BitVecLiteral n a) (BitVecLiteral m b) f g e = λ i. BitVecLiteral (width (e i)) (number (e i))
literal_same (BoolLiteral a) (BoolLiteral b) f g e = ap (λ v. BoolLiteral (truth v)) e
literal_same (EntityLiteral s a) (EntityLiteral t b) f g e = let p : a ≡ b = utf8_same a b f g (ap entity_id e) in λ i. EntityLiteral (entity_type (e i)) (p i)
literal_same (ExtensionLiteral x) (ExtensionLiteral y) f g e = ap (λ v. ExtensionLiteral (extension_of x v)) e
literal_same (StringLiteral s) (StringLiteral t) f g e = ap StringLiteral (utf8_same s t f g (ap characters e))
literal_same l m f g e = cc

literal_low : (l : PlainLiteral) → nat_lt (value_place (literal_value l)) 5 ≡ true
literal_low (BitVecLiteral n a) = refl
literal_low (BoolLiteral b) = refl
literal_low (EntityLiteral e i) = refl
literal_low (ExtensionLiteral x) = refl
literal_low (StringLiteral s) = refl

literal_apart : (l : PlainLiteral) (v : Value) → nat_lt (value_place v) 5 ≡ false → literal_value l ≡ v → ⊥
literal_apart l v h e = let p : true ≡ false = sym (literal_low l) ∙ (ap (λ u. nat_lt (value_place u) 5) e ∙ h) in cc

-- ---- literals

module _ (I : Interpretation) where
  abbrev Good : PlainTerm → Type 0
  Good t = (is_literal t ≡ true) × (typed t ≡ true) × AllByRecursion IsFormedNode (subterms t)

  abbrev Goods : PlainTerms → Type 0
  Goods ts = (are_literals ts ≡ true) × (typed_all ts ≡ true) × AllByRecursion IsFormedNode (subterms_of_all ts)

  abbrev Of : PlainType → PlainTerms → Type 0
  Of a ts = list_all (type_eq a) (types_of ts) ≡ true

  good-first : (t : PlainTerm) (ts : PlainTerms) → Goods (one_term t ts) → Good t
  good-first t ts g = (first_so (is_literal t) (are_literals ts) g.0, first_so (typed t) (typed_all ts) g.1, all-front IsFormedNode (subterms t) (subterms_of_all ts) g.2)

  goods-rest : (t : PlainTerm) (ts : PlainTerms) → Goods (one_term t ts) → Goods ts
  goods-rest t ts g = (second_so (is_literal t) (are_literals ts) g.0, second_so (typed t) (typed_all ts) g.1, all-back IsFormedNode (subterms t) (subterms_of_all ts) g.2)

  of-first : (a : PlainType) (t : PlainTerm) (ts : PlainTerms) → Of a (one_term t ts) → a ≡ type_of t
  of-first a t ts h = eq_same a (type_of t) (first_so (type_eq a (type_of t)) (list_all (type_eq a) (types_of ts)) h)

  of-rest : (a : PlainType) (t : PlainTerm) (ts : PlainTerms) → Of a (one_term t ts) → Of a ts
  of-rest a t ts h = second_so (type_eq a (type_of t)) (list_all (type_eq a) (types_of ts)) h

  -- the term with a value that is among those of us
  find : (a : PlainType) (t : PlainTerm) → ((u : PlainTerm) → Good u → a ≡ type_of u → meaning I t ≡ meaning I u → t ≡ u) → (us : PlainTerms) → Goods us → Of a us → IsIn (meaning I t) (meanings I us) → IsIn t (list_of_terms us)
  find a t f no_terms g h m = m
  find a t f (one_term u us) g h m =
      ⊎_elim (λ e. inl (f u (good-first u us g) (of-first a u us h) e)) (λ k. inr (find a t f us (goods-rest u us g) (of-rest a u us h) k)) m

  -- each of us is among the terms that f finds
  all_found : (zs : List PlainTerm) (us : PlainTerms) → Goods us → (a : PlainType) → Of a us → ((u : PlainTerm) → Good u → a ≡ type_of u → IsIn (meaning I u) (meanings I us) → IsIn u zs) → (z : PlainTerm) → IsIn z (list_of_terms us) → IsIn z zs
  all_found zs no_terms g a h f z m = absurd m
  all_found zs (one_term u us) g a h f z m =
      ⊎_elim (λ e. subst (λ x. IsIn x zs) (sym e) (f u (good-first u us g) (of-first a u us h) (inl refl))) (λ k. all_found zs us (goods-rest u us g) a (of-rest a u us h) (λ x p q n. f x p q (inr n)) z k) m

  set_in : (ts us : PlainTerms) → set_of (meanings I ts) ≡ set_of (meanings I us) → (v : Value) → IsIn v (meanings I ts) → IsIn v (meanings I us)
  set_in ts us e v m =
      let p : sorted_values (meanings I ts) ≡ sorted_values (meanings I us) = sym (list-values (sorted_values (meanings I ts))) ∙ (ap elements e ∙ list-values (sorted_values (meanings I us))) in
      out-sorted v (meanings I us) (subst (λ l. IsIn v l) p (in-sorted v (meanings I ts) m))

  mutual
    pub same : (t u : PlainTerm) → Good t → Good u → type_of t ≡ type_of u → meaning I t ≡ meaning I u → t ≡ u
    same (NoneTerm a) (NoneTerm b) g k e v = ap (λ x. NoneTerm (unwrap_or (inner_type x) a)) e
    same (LiteralTerm l) (LiteralTerm m) g k e v = ap LiteralTerm (literal_same l m g.2.0 k.2.0 v)
    same (SomeTerm t) (SomeTerm u) g k e v =
        ap SomeTerm (same t u (g.0, g.1, all-front IsFormedNode (subterms t) (SomeTerm t ∷ []) g.2) (k.0, k.1, all-front IsFormedNode (subterms u) (SomeTerm u ∷ []) k.2) (ap (λ x. unwrap_or (inner_type x) (type_of t)) e) (ap (value_inside NoneValue) v))
    same (RecordTerm fs) (RecordTerm gs) g k e v =
        ap RecordTerm (same_fields fs gs g.0 k.0 g.1 k.1 (all-front IsFormedNode (subterms_of_fields fs) (RecordTerm fs ∷ []) g.2) (all-front IsFormedNode (subterms_of_fields gs) (RecordTerm gs ∷ []) k.2) (ap attributes_of e) (ap fields_of v))
    same (SetTerm a ts) (SetTerm b us) g k e v =
        let p : a ≡ b = ap element_type e in
        let gs : Goods ts = (g.0, first_so (typed_all ts) (are_elements a ts) g.1, all-front IsFormedNode (subterms_of_all ts) (SetTerm a ts ∷ []) g.2) in
        let ks : Goods us = (k.0, first_so (typed_all us) (are_elements b us) k.1, all-front IsFormedNode (subterms_of_all us) (SetTerm b us ∷ []) k.2) in
        let ga : Of a ts = typed_elements a ts (second_so (typed_all ts) (are_elements a ts) g.1) in
        let kb : Of b us = typed_elements b us (second_so (typed_all us) (are_elements b us) k.1) in
        let ka : Of a us = subst (λ x. Of x us) (sym p) kb in
        let q : list_of_terms ts ≡ list_of_terms us = one_list term_cmp terms_total (list_of_terms ts) (list_of_terms us) (elements_ascend a ts (second_so (typed_all ts) (are_elements a ts) g.1)) (elements_ascend b us (second_so (typed_all us) (are_elements b us) k.1)) (all_in a ts us gs ks ga ka (set_in ts us v)) (all_found (list_of_terms ts) us ks a ka (λ u w s m. in_all a ts u gs w ga s (set_in us ts (sym v) (meaning I u) m))) in
        let r : ts ≡ us = sym (listed_again ts) ∙ (ap terms q ∙ listed_again us) in
        λ i. SetTerm (p i) (r i)
    same (LiteralTerm l) (NoneTerm b) g k e v = absurd (literal_apart l NoneValue refl v)
    same (LiteralTerm l) (SomeTerm u) g k e v = absurd (literal_apart l (SomeValue (meaning I u)) refl v)
    same (LiteralTerm l) (RecordTerm gs) g k e v = absurd (literal_apart l (RecordValue (field_meanings I gs)) refl v)
    same (LiteralTerm l) (SetTerm b us) g k e v = absurd (literal_apart l (set_of (meanings I us)) refl v)
    same (NoneTerm a) (LiteralTerm m) g k e v = absurd (literal_apart m NoneValue refl (sym v))
    same (SomeTerm t) (LiteralTerm m) g k e v = absurd (literal_apart m (SomeValue (meaning I t)) refl (sym v))
    same (RecordTerm fs) (LiteralTerm m) g k e v = absurd (literal_apart m (RecordValue (field_meanings I fs)) refl (sym v))
    same (SetTerm a ts) (LiteralTerm m) g k e v = absurd (literal_apart m (set_of (meanings I ts)) refl (sym v))
    same t u g k e v = cc (g.0, k.0, v)

    all_in : (a : PlainType) (ts us : PlainTerms) → Goods ts → Goods us → Of a ts → Of a us → ((v : Value) → IsIn v (meanings I ts) → IsIn v (meanings I us)) → (z : PlainTerm) → IsIn z (list_of_terms ts) → IsIn z (list_of_terms us)
    all_in a no_terms us g k h n f z m = absurd m
    all_in a (one_term t ts) us g k h n f z m =
        ⊎_elim (λ e. subst (λ x. IsIn x (list_of_terms us)) (sym e) (find a t (λ u w s q. same t u (good-first t ts g) w (sym (of-first a t ts h) ∙ s) q) us k n (f (meaning I t) (inl refl)))) (λ j. all_in a ts us (goods-rest t ts g) k (of-rest a t ts h) n (λ v q. f v (inr q)) z j) m

    in_all : (a : PlainType) (ts : PlainTerms) (u : PlainTerm) → Goods ts → Good u → Of a ts → a ≡ type_of u → IsIn (meaning I u) (meanings I ts) → IsIn u (list_of_terms ts)
    in_all a no_terms u g w h s m = m
    in_all a (one_term t ts) u g w h s m =
        ⊎_elim (λ e. inl (sym (same t u (good-first t ts g) w (sym (of-first a t ts h) ∙ s) (sym e)))) (λ j. inr (in_all a ts u (goods-rest t ts g) w (of-rest a t ts h) s j)) m

    same_fields : (fs gs : PlainFields) → are_literal_fields fs ≡ true → are_literal_fields gs ≡ true → typed_fields fs ≡ true → typed_fields gs ≡ true → AllByRecursion IsFormedNode (subterms_of_fields fs) → AllByRecursion IsFormedNode (subterms_of_fields gs) → field_types fs ≡ field_types gs → field_meanings I fs ≡ field_meanings I gs → fs ≡ gs
    same_fields no_fields no_fields a b c d f g e v = refl
    same_fields no_fields (one_field y u gs) a b c d f g e v = cc
    same_fields (one_field x t fs) no_fields a b c d f g e v = cc
    same_fields (one_field x t fs) (one_field y u gs) a b c d f g e v =
        let p : t ≡ u = same t u (first_so (is_literal t) (are_literal_fields fs) a, first_so (typed t) (typed_fields fs) c, all-front IsFormedNode (subterms t) (subterms_of_fields fs) f) (first_so (is_literal u) (are_literal_fields gs) b, first_so (typed u) (typed_fields gs) d, all-front IsFormedNode (subterms u) (subterms_of_fields gs) g) (ap first_type e) (ap first_value v) in
        let q : fs ≡ gs = same_fields fs gs (second_so (is_literal t) (are_literal_fields fs) a) (second_so (is_literal u) (are_literal_fields gs) b) (second_so (typed t) (typed_fields fs) c) (second_so (typed u) (typed_fields gs) d) (all-back IsFormedNode (subterms t) (subterms_of_fields fs) f) (all-back IsFormedNode (subterms u) (subterms_of_fields gs) g) (ap rest_types e) (ap rest_values v) in
        λ i. one_field (first_name (v i)) (p i) (q i)
