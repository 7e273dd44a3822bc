-- A value of a type has its shape, and a typed term has a value of the shape of its type.
use Rattle.std.proofs.Common.{◌≡◌, ℕ, ◌+◌, Bool, true, false, ◌&&◌, List, [], ◌∷◌, refl, ap, ◌∙◌, sym, subst}
use Rattle.std.specs.Prelude.{bytes_eq, cond, nat_le, Option, Some}
use Rattle.std.specs.Bool.{then_some}
use Rattle.std.specs.Cmp.{first_so, second_so}
use Rattle.std.specs.List.{AllByRecursion, list_all}
use Rattle.law_numbers.specs.BitVectors as bits
use Rattle.law_numbers.specs.BitOperators.{bits_entry}
use Rattle.law_numbers.proofs.BitOperators.{bits_entry-below}
use Rattle.law_numbers.proofs.BitRanges as ranges
use Rattle.law_terms.specs.Formed.{IsFormedLiteral, IsFormedNode}
use Rattle.law_terms.specs.Interpretations.{IsGivenOp, IsGiven}
use Rattle.law_terms.specs.Meaning.{literal_value, meaning, meanings, field_meanings}
use Rattle.law_terms.specs.Operators.{truth, width, number, elements, field_value, attribute_value, intersection, is_member, value_inside, apply_extension, to_bits, apply}
use Rattle.law_terms.specs.Reached.{subterms, subterms_of_all, subterms_of_fields}
use Rattle.law_terms.specs.Shapes.{IsShaped, AreShapedFields}
use Rattle.law_terms.specs.Tables.{Interpretation, value_at}
use Rattle.law_terms.specs.Types.{type_eq, literal_type, type_of, field_types, types_of, is_bits, is_set, inner_type, attribute_in, attribute_type, extended_type, bits_and_bits, extension_signature, result_type, is_type}
use Rattle.law_terms.specs.Typing.{are_elements, typed, typed_all, typed_fields}
use Rattle.law_terms.proofs.Elements.{typed_elements}
use Rattle.law_terms.specs.TypeValues.{Enums, IsValue, AreFieldValues}
use Rattle.law_terms.specs.ValueOrder.{value_cmp, ascends, list_of_values, sorted_values, set_of}
use Rattle.law_terms.proofs.SortedValues.{ascends-sorted, all-sorted, all-filtered, list-values}
use Rattle.law_terms.proofs.Soundness.{all-front, all-back, all-last, inside, chosen, is_type-some, AreBelow, bits_result, negated_at, looked_up, extension_result}
use Rattle.law_terms.proofs.TypeOrder.{eq_same}
use Rattle.law_terms.specs.Plain.{PlainType, OptionType, BitVecType, BoolType, EntityType, ExtensionType, StringType, RecordType, SetType, AttributeTypes, no_attributes, attribute, ExtensionOp, DatetimeOfBitVecOp, DatetimeValOp, DecimalValOp, DurationOfBitVecOp, DurationValOp, IpAddrV4Op, IpAddrV6Op, IpIsV4Op, IpPrefixV4Op, IpPrefixV6Op, PlainOp, AndOp, BvnegOp, BvnegoOp, EqOp, ExtOp, IteOp, NotOp, OptionGetOp, OrOp, RecordGetOp, SetInterOp, SetMemberOp, SetSubsetOp, StringLikeOp, UufOp, ZeroExtendOp, DecimalOf, Ipv4Of, Ipv6Of, DatetimeOf, DurationOf, PlainLiteral, BitVecLiteral, BoolLiteral, EntityLiteral, ExtensionLiteral, StringLiteral, PlainTerm, Application, NoneTerm, LiteralTerm, RecordTerm, SetTerm, SomeTerm, VariableTerm, PlainTerms, no_terms, one_term, PlainFields, no_fields, one_field, BitsOp, TestOp, OverflowOp}
use Rattle.law_terms.specs.Values.{Value, BoolValue, BitVecValue, StringValue, EntityValue, ExtensionValue, NoneValue, SomeValue, RecordValue, SetValue, FieldValues, no_field_values, one_field_value}

pub all-become : {X : Type 0} (P Q : X → Type 0) → ((x : X) → P x → Q x) → (xs : List X) → AllByRecursion P xs → AllByRecursion Q xs
all-become P Q f [] h = tt
all-become P Q f (x ∷ xs) h = (f x h.0, all-become P Q f xs h.1)

-- ---- operators

truth_shaped : (b : Bool) (ty : PlainType) (c : Bool) → then_some b BoolType ≡ Some ty → IsShaped ty (BoolValue c)
truth_shaped b ty c h = subst (λ u. IsShaped u (BoolValue c)) (chosen b BoolType ty h).1 tt

choice_shaped : (g : Bool) (t : PlainType) (v w : Value) → IsShaped t v → IsShaped t w → IsShaped t (cond g v w)
choice_shaped true t v w h k = h
choice_shaped false t v w h k = k

option_shaped : (t ty : PlainType) (v d : Value) → inner_type t ≡ Some ty → IsShaped t v → IsShaped ty d → IsShaped ty (value_inside d v)
option_shaped (OptionType u) ty NoneValue d h k g = g
option_shaped (OptionType u) ty (SomeValue w) d h k g = subst (λ x. IsShaped x w) (inside u ty h) k
option_shaped (OptionType u) ty v d h k g = elim k [ ]
option_shaped t ty v d h k g = cc

field_shaped : (x : List ℕ) (fs : AttributeTypes) (gs : FieldValues) (ty : PlainType) → attribute_in x fs ≡ Some ty → AreShapedFields fs gs → IsShaped ty (field_value x gs)
field_shaped x no_attributes gs ty h k = cc
field_shaped x (attribute a t fs) no_field_values ty h k = elim k [ ]
field_shaped x (attribute a t fs) (one_field_value b v gs) ty h k = from (bytes_eq x a) (bytes_eq x b) (ap (bytes_eq x) (sym k.0)) h (λ e. field_shaped x fs gs ty e k.2)
  where
    from : (c d : Bool) → c ≡ d → ◌≡◌ {A = Option PlainType} (elim c [ true ↦ Some t | false ↦ attribute_in x fs ]) (Some ty) → (attribute_in x fs ≡ Some ty → IsShaped ty (field_value x gs)) → IsShaped ty (elim d [ true ↦ v | false ↦ field_value x gs ])
    from true true p e again = subst (λ u. IsShaped u v) (inside t ty e) k.1
    from false false p e again = again e
    from true false p e again = cc
    from false true p e again = cc

record_shaped : (x : List ℕ) (t ty : PlainType) (v : Value) → attribute_type x t ≡ Some ty → IsShaped t v → IsShaped ty (attribute_value x v)
record_shaped x (RecordType fs) ty (RecordValue gs) h k = field_shaped x fs gs ty h k
record_shaped x (RecordType fs) ty v h k = elim k [ ]
record_shaped x t ty v h k = cc

extended_shaped : (k : ℕ) (t ty : PlainType) (v : Value) → extended_type k t ≡ Some ty → IsShaped t v → IsShaped ty (BitVecValue (width v + k) (number v))
extended_shaped k (BitVecType n) ty (BitVecValue m a) h g =
    subst (λ u. IsShaped u (BitVecValue (m + k) a)) (chosen (nat_le (n + k) 128) (BitVecType (n + k)) ty h).1 (ap (λ j. j + k) g.0, ranges.wider n k a g.1)
extended_shaped k (BitVecType n) ty v h g = elim g [ ]
extended_shaped k t ty v h g = cc

set_shaped : (t : PlainType) (vs : List Value) → AllByRecursion (λ v. IsShaped t v) vs → IsShaped (SetType t) (set_of vs)
set_shaped t vs h =
    (ap (ascends value_cmp) (list-values (sorted_values vs)) ∙ ascends-sorted vs, subst (AllByRecursion (λ v. IsShaped t v)) (sym (list-values (sorted_values vs))) (all-sorted (λ v. IsShaped t v) vs h))

intersected_shaped : (t : PlainType) (v w : Value) → is_set t ≡ true → IsShaped t v → IsShaped t (set_of (intersection (elements v) (elements w)))
intersected_shaped (SetType t) (SetValue vs) w e h = set_shaped t (intersection (list_of_values vs) (elements w)) (all-filtered (λ v. IsShaped t v) (λ v. is_member v (elements w)) (list_of_values vs) h.1)
intersected_shaped (SetType t) v w e h = elim h [ ]
intersected_shaped t v w e h = cc

intersection_shaped : (t u ty : PlainType) (v w : Value) → then_some (is_set t && type_eq t u) t ≡ Some ty → IsShaped t v → IsShaped ty (set_of (intersection (elements v) (elements w)))
intersection_shaped t u ty v w e h =
    let c : ((is_set t && type_eq t u) ≡ true) × (t ≡ ty) = chosen (is_set t && type_eq t u) t ty e in
    subst (λ x. IsShaped x (set_of (intersection (elements v) (elements w)))) c.1 (intersected_shaped t v w (first_so (is_set t) (type_eq t u) c.0) h)

literal_shaped : (l : PlainLiteral) → IsFormedLiteral l → IsShaped (literal_type l) (literal_value l)
literal_shaped (BitVecLiteral n a) f = (refl, f)
literal_shaped (BoolLiteral b) f = tt
literal_shaped (EntityLiteral e i) f = refl
literal_shaped (ExtensionLiteral (DecimalOf z)) f = f
literal_shaped (ExtensionLiteral (Ipv4Of a p)) f = f
literal_shaped (ExtensionLiteral (Ipv6Of a p)) f = f
literal_shaped (ExtensionLiteral (DatetimeOf z)) f = f
literal_shaped (ExtensionLiteral (DurationOf z)) f = f
literal_shaped (StringLiteral s) f = tt

module _ (enums : Enums) where
  -- ---- a value of a type has its shape, and where the type holds no text and no entity the shape is all

  mutual
    pub shaped : (t : PlainType) (v : Value) → IsValue enums t v → IsShaped t v
    shaped BoolType (BoolValue b) h = tt
    shaped (BitVecType n) (BitVecValue m a) h = h
    shaped StringType (StringValue s) h = tt
    shaped (EntityType e) (EntityValue f i) h = h.0
    shaped (ExtensionType k) (ExtensionValue x) h = h
    shaped (OptionType t) NoneValue h = tt
    shaped (OptionType t) (SomeValue v) h = shaped t v h
    shaped (RecordType x) (RecordValue fs) h = fields_shaped x fs h
    shaped (SetType t) (SetValue vs) h = (h.0, all-become (λ v. IsValue enums t v) (λ v. IsShaped t v) (λ v g. shaped t v g) (list_of_values vs) h.1)
    shaped t v h = elim h [ ]

    fields_shaped : (x : AttributeTypes) (fs : FieldValues) → AreFieldValues enums x fs → AreShapedFields x fs
    fields_shaped no_attributes no_field_values h = tt
    fields_shaped (attribute a t x) (one_field_value b v fs) h = (h.0, shaped t v h.1, fields_shaped x fs h.2)
    fields_shaped x fs h = elim h [ ]

  bits_value : (t : PlainType) (v : Value) → is_bits t ≡ true → IsShaped t v → IsValue enums t v
  bits_value (BitVecType n) (BitVecValue m a) e h = h
  bits_value (BitVecType n) v e h = elim h [ ]
  bits_value t v e h = cc

  argument_value : (o : ExtensionOp) (v : Value) → IsShaped (extension_signature o).0 v → IsValue enums (extension_signature o).0 v
  argument_value DatetimeOfBitVecOp (BitVecValue m a) h = h
  argument_value DurationOfBitVecOp (BitVecValue m a) h = h
  argument_value DatetimeValOp (ExtensionValue x) h = h
  argument_value DecimalValOp (ExtensionValue x) h = h
  argument_value DurationValOp (ExtensionValue x) h = h
  argument_value IpAddrV4Op (ExtensionValue x) h = h
  argument_value IpAddrV6Op (ExtensionValue x) h = h
  argument_value IpIsV4Op (ExtensionValue x) h = h
  argument_value IpPrefixV4Op (ExtensionValue x) h = h
  argument_value IpPrefixV6Op (ExtensionValue x) h = h
  argument_value o v h = elim h [ ]

  bits_shaped : (f : ℕ → ℕ → ℕ → ℕ) → AreBelow enums f → (t u ty : PlainType) (v w : Value) → then_some (bits_and_bits t u) t ≡ Some ty → IsShaped t v → IsShaped u w → IsShaped ty (to_bits f v w)
  bits_shaped f fits t u ty v w e h g =
      let c : (bits_and_bits t u ≡ true) × (t ≡ ty) = chosen (bits_and_bits t u) t ty e in
      let b : is_bits t ≡ true = first_so (is_bits t) (type_eq t u) c.0 in
      let s : t ≡ u = eq_same t u (second_so (is_bits t) (type_eq t u) c.0) in
      let d : is_bits u ≡ true = ap is_bits (sym s) ∙ b in
      shaped ty (to_bits f v w) (bits_result enums f fits t u ty v w e (bits_value t v b h) (bits_value u w d g))

  -- each argument has a value of its type's shape
  abbrev HaveShapes : Interpretation → PlainTerms → Type 0
  HaveShapes I no_terms = Unit {0}
  HaveShapes I (one_term t ts) = IsShaped (type_of t) (meaning I t) × HaveShapes I ts

  applied_shaped : (I : Interpretation) (o : PlainOp) (ts : PlainTerms) (ty : PlainType) → result_type o (types_of ts) ≡ Some ty → HaveShapes I ts → IsGivenOp enums I o ty → IsShaped ty (apply I o ty (meanings I ts))
  applied_shaped I NotOp (one_term a no_terms) ty h k g = truth_shaped (type_eq (type_of a) BoolType) ty _ h
  applied_shaped I AndOp (one_term a (one_term b no_terms)) ty h k g = truth_shaped (type_eq (type_of a) BoolType && type_eq (type_of b) BoolType) ty _ h
  applied_shaped I OrOp (one_term a (one_term b no_terms)) ty h k g = truth_shaped (type_eq (type_of a) BoolType && type_eq (type_of b) BoolType) ty _ h
  applied_shaped I EqOp (one_term a (one_term b no_terms)) ty h k g = truth_shaped (type_eq (type_of a) (type_of b)) ty _ h
  applied_shaped I IteOp (one_term c (one_term a (one_term b no_terms))) ty h k g =
      let e : ((type_eq (type_of c) BoolType && type_eq (type_of a) (type_of b)) ≡ true) × (type_of a ≡ ty) = chosen (type_eq (type_of c) BoolType && type_eq (type_of a) (type_of b)) (type_of a) ty h in
      let s : type_of a ≡ type_of b = eq_same (type_of a) (type_of b) (second_so (type_eq (type_of c) BoolType) (type_eq (type_of a) (type_of b)) e.0) in
      choice_shaped (truth (meaning I c)) ty (meaning I a) (meaning I b) (subst (λ x. IsShaped x (meaning I a)) e.1 k.1.0) (subst (λ x. IsShaped x (meaning I b)) (sym s ∙ e.1) k.1.1.0)
  applied_shaped I (UufOp f) (one_term a no_terms) ty h k g =
      let e : (type_eq (type_of a) f.argument ≡ true) × (f.output ≡ ty) = chosen (type_eq (type_of a) f.argument) f.output ty h in
      subst (λ x. IsShaped x (value_at (I.function f) (meaning I a))) e.1 (shaped f.output (value_at (I.function f) (meaning I a)) (looked_up enums f.output (I.function f).entries (I.function f).elsewhere (meaning I a) g.answers g.elsewhere))
  applied_shaped I BvnegOp (one_term a no_terms) ty h k g =
      let e : (is_bits (type_of a) ≡ true) × (type_of a ≡ ty) = chosen (is_bits (type_of a)) (type_of a) ty h in
      subst (λ x. IsShaped x (BitVecValue (width (meaning I a)) (bits.bvneg (width (meaning I a)) (number (meaning I a))))) e.1 (shaped (type_of a) (BitVecValue (width (meaning I a)) (bits.bvneg (width (meaning I a)) (number (meaning I a)))) (negated_at enums (type_of a) (meaning I a) e.0 (bits_value (type_of a) (meaning I a) e.0 k.0)))
  applied_shaped I (BitsOp o) (one_term a (one_term b no_terms)) ty h k g = bits_shaped (bits_entry o).function (bits_entry-below o) (type_of a) (type_of b) ty (meaning I a) (meaning I b) h k.0 k.1.0
  applied_shaped I (TestOp o) (one_term a (one_term b no_terms)) ty h k g = truth_shaped (bits_and_bits (type_of a) (type_of b)) ty _ h
  applied_shaped I (OverflowOp o) (one_term a (one_term b no_terms)) ty h k g = truth_shaped (bits_and_bits (type_of a) (type_of b)) ty _ h
  applied_shaped I BvnegoOp (one_term a no_terms) ty h k g = truth_shaped (is_bits (type_of a)) ty _ h
  applied_shaped I (ZeroExtendOp n) (one_term a no_terms) ty h k g = extended_shaped n (type_of a) ty (meaning I a) h k.0
  applied_shaped I SetMemberOp (one_term a (one_term b no_terms)) ty h k g = truth_shaped (type_eq (type_of b) (SetType (type_of a))) ty _ h
  applied_shaped I SetSubsetOp (one_term a (one_term b no_terms)) ty h k g = truth_shaped (is_set (type_of a) && type_eq (type_of a) (type_of b)) ty _ h
  applied_shaped I SetInterOp (one_term a (one_term b no_terms)) ty h k g = intersection_shaped (type_of a) (type_of b) ty (meaning I a) (meaning I b) h k.0
  applied_shaped I OptionGetOp (one_term a no_terms) ty h k g = option_shaped (type_of a) ty (meaning I a) (I.inside_none ty) h k.0 (shaped ty (I.inside_none ty) g)
  applied_shaped I (RecordGetOp x) (one_term a no_terms) ty h k g = record_shaped x (type_of a) ty (meaning I a) h k.0
  applied_shaped I (StringLikeOp p) (one_term a no_terms) ty h k g = truth_shaped (type_eq (type_of a) StringType) ty _ h
  applied_shaped I (ExtOp o) (one_term a no_terms) ty h k g =
      let e : (type_eq (type_of a) (extension_signature o).0 ≡ true) × ((extension_signature o).1 ≡ ty) = chosen (type_eq (type_of a) (extension_signature o).0) (extension_signature o).1 ty h in
      let s : type_of a ≡ (extension_signature o).0 = eq_same (type_of a) (extension_signature o).0 e.0 in
      subst (λ x. IsShaped x (apply_extension I o (meaning I a))) e.1 (shaped (extension_signature o).1 (apply_extension I o (meaning I a)) (extension_result enums I o (meaning I a) (argument_value o (meaning I a) (subst (λ x. IsShaped x (meaning I a)) s k.0)) g))
  applied_shaped I o ts ty h k g = cc

  -- ---- terms

  elements_shaped : (I : Interpretation) (t : PlainType) (ts : PlainTerms) → list_all (type_eq t) (types_of ts) ≡ true → HaveShapes I ts → AllByRecursion (λ v. IsShaped t v) (meanings I ts)
  elements_shaped I t no_terms h k = tt
  elements_shaped I t (one_term u us) h k =
      let e : t ≡ type_of u = eq_same t (type_of u) (first_so (type_eq t (type_of u)) (list_all (type_eq t) (types_of us)) h) in
      (subst (λ x. IsShaped x (meaning I u)) (sym e) k.0, elements_shaped I t us (second_so (type_eq t (type_of u)) (list_all (type_eq t) (types_of us)) h) k.1)

  abbrev Formed : List PlainTerm → Type 0
  Formed ts = AllByRecursion IsFormedNode ts

  abbrev Given : Interpretation → List PlainTerm → Type 0
  Given I ts = AllByRecursion (IsGiven enums I) ts

  mutual
    pub term_shaped : (I : Interpretation) (t : PlainTerm) → typed t ≡ true → Formed (subterms t) → Given I (subterms t) → IsShaped (type_of t) (meaning I t)
    term_shaped I (Application o ts t) h w g =
        let r : result_type o (types_of ts) ≡ Some t = is_type-some (result_type o (types_of ts)) t (second_so (typed_all ts) (is_type (result_type o (types_of ts)) t) h) in
        applied_shaped I o ts t r (all_shaped I ts (first_so (typed_all ts) (is_type (result_type o (types_of ts)) t) h) (all-front IsFormedNode (subterms_of_all ts) (Application o ts t ∷ []) w) (all-front (IsGiven enums I) (subterms_of_all ts) (Application o ts t ∷ []) g)) (all-last (IsGiven enums I) (subterms_of_all ts) (Application o ts t) g)
    term_shaped I (NoneTerm t) h w g = tt
    term_shaped I (LiteralTerm l) h w g = literal_shaped l w.0
    term_shaped I (RecordTerm fs) h w g =
        all_fields_shaped I fs h (all-front IsFormedNode (subterms_of_fields fs) (RecordTerm fs ∷ []) w) (all-front (IsGiven enums I) (subterms_of_fields fs) (RecordTerm fs ∷ []) g)
    term_shaped I (SetTerm t ts) h w g =
        set_shaped t (meanings I ts) (elements_shaped I t ts (typed_elements t ts (second_so (typed_all ts) (are_elements t ts) h)) (all_shaped I ts (first_so (typed_all ts) (are_elements t ts) h) (all-front IsFormedNode (subterms_of_all ts) (SetTerm t ts ∷ []) w) (all-front (IsGiven enums I) (subterms_of_all ts) (SetTerm t ts ∷ []) g)))
    term_shaped I (SomeTerm t) h w g =
        term_shaped I t h (all-front IsFormedNode (subterms t) (SomeTerm t ∷ []) w) (all-front (IsGiven enums I) (subterms t) (SomeTerm t ∷ []) g)
    term_shaped I (VariableTerm id t) h w g = shaped t (I.variable id t) g.0

    all_shaped : (I : Interpretation) (ts : PlainTerms) → typed_all ts ≡ true → Formed (subterms_of_all ts) → Given I (subterms_of_all ts) → HaveShapes I ts
    all_shaped I no_terms h w g = tt
    all_shaped I (one_term t ts) h w g =
        (term_shaped I t (first_so (typed t) (typed_all ts) h) (all-front IsFormedNode (subterms t) (subterms_of_all ts) w) (all-front (IsGiven enums I) (subterms t) (subterms_of_all ts) g), all_shaped I ts (second_so (typed t) (typed_all ts) h) (all-back IsFormedNode (subterms t) (subterms_of_all ts) w) (all-back (IsGiven enums I) (subterms t) (subterms_of_all ts) g))

    all_fields_shaped : (I : Interpretation) (fs : PlainFields) → typed_fields fs ≡ true → Formed (subterms_of_fields fs) → Given I (subterms_of_fields fs) → AreShapedFields (field_types fs) (field_meanings I fs)
    all_fields_shaped I no_fields h w g = tt
    all_fields_shaped I (one_field a t fs) h w g =
        (refl, term_shaped I t (first_so (typed t) (typed_fields fs) h) (all-front IsFormedNode (subterms t) (subterms_of_fields fs) w) (all-front (IsGiven enums I) (subterms t) (subterms_of_fields fs) g), all_fields_shaped I fs (second_so (typed t) (typed_fields fs) h) (all-back IsFormedNode (subterms t) (subterms_of_fields fs) w) (all-back (IsGiven enums I) (subterms t) (subterms_of_fields fs) g))
