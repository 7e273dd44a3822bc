-- A typed term without fault has a value of its type.
use Rattle.std.proofs.Common.{◌≡◌, ℕ, ◌+◌, ◌-◌, ◌*◌, ◌^◌, ◌<◌, ◌≤◌, Bool, true, false, ◌&&◌, List, [], ◌∷◌, ◌++◌, refl, ap, ◌∙◌, sym, subst, arith}
use Rattle.std.specs.Prelude.{bytes_eq, ◌||◌, cond, not, nat_le, Option, Some, None, unwrap_or, pos, negsuc}
use Rattle.std.specs.Bool.{then_some}
use Rattle.std.specs.Cmp.{first_so, second_so}
use Rattle.std.specs.List.{AllByRecursion, list_all, list_any}
use Rattle.std.specs.Str.{chars}
use Rattle.std.proofs.lemmas.Bool.{leb-true, leb-false}
use Rattle.law_numbers.specs.BitVectors as bits
use Rattle.law_numbers.specs.BitVectors.{signed, is_negative}
use Rattle.std.specs.Option.{option_or}
use Rattle.law_terms.specs.Faults.{Fault, unless, fault_unless, is_string, entity_fault, literal_fault, is_passed_over, type_fault, operator_fault, term_fault, terms_fault, fields_fault}
use Rattle.law_terms.specs.Formed.{IsFormedLiteral, IsFormedNode}
use Rattle.law_terms.specs.Interpretations.{IsGivenSelector, IsGivenOp, IsGiven}
use Rattle.law_terms.specs.Meaning.{literal_value, meaning, meanings, field_meanings}
use Rattle.law_terms.specs.Operators.{truth, width, number, elements, field_value, attribute_value, intersection, is_member, value_inside, prefix_value, apply_extension, to_bits, apply}
use Rattle.law_terms.specs.Reached.{subterms, subterms_of_all, subterms_of_fields}
use Rattle.law_terms.specs.Tables.{Interpretation, value_among, value_at}
use Rattle.law_terms.specs.Types.{type_eq, literal_type, type_of, field_types, types_of, is_bits, is_set, inner_type, attribute_in, attribute_type, extended_type, bits_and_bits, extension_signature, result_type, is_type}
use Rattle.law_terms.specs.Typing.{are_elements, typed, typed_all, typed_fields}
use Rattle.law_terms.proofs.Elements.{typed_elements}
use Rattle.law_terms.specs.TypeValues.{Enums, members_of, greatest_code_point, AreCodePoints, IsId, IsLong, IsPrefix, IsValue, AreFieldValues}
use Rattle.law_terms.specs.ValueOrder.{value_eq, value_cmp, ascends, list_of_values, sorted_values, set_of}
use Rattle.law_numbers.specs.BitOperators.{bits_entry}
use Rattle.law_numbers.proofs.BitOperators.{bits_entry-below}
use Rattle.law_numbers.proofs.BitRanges as ranges
use Rattle.law_terms.proofs.Matching.{or_second}
use Rattle.law_terms.proofs.SortedValues.{ascends-sorted, all-sorted, all-filtered, list-values}
use Rattle.law_terms.proofs.TypeOrder.{eq_same}
use Rattle.law_terms.proofs.ValueOrder.{bytes_itself}
use Rattle.std.proofs.lemmas.Slice.Eq.{bytes_eq-Decides}
use Rattle.law_terms.specs.Plain.{PlainType, OptionType, BitVecType, BoolType, StringType, RecordType, SetType, AttributeTypes, no_attributes, attribute, ExtensionOp, DatetimeOfBitVecOp, DatetimeValOp, DecimalValOp, DurationOfBitVecOp, DurationValOp, IpAddrV4Op, IpAddrV6Op, IpIsV4Op, IpPrefixV4Op, IpPrefixV6Op, PlainOp, AndOp, BvnegOp, BvnegoOp, EqOp, ExtOp, IteOp, NotOp, OptionGetOp, OrOp, RecordGetOp, SetInterOp, SetMemberOp, SetSubsetOp, StringLikeOp, UufOp, ZeroExtendOp, DecimalOf, Ipv4Of, Ipv6Of, DatetimeOf, DurationOf, PlainLiteral, BitVecLiteral, BoolLiteral, EntityLiteral, ExtensionLiteral, StringLiteral, PlainTerm, Application, NoneTerm, LiteralTerm, RecordTerm, SetTerm, SomeTerm, VariableTerm, PlainTerms, no_terms, one_term, PlainFields, no_fields, one_field, BitsOp, TestOp, OverflowOp}
use Rattle.law_terms.specs.Values.{Value, BoolValue, BitVecValue, ExtensionValue, NoneValue, SomeValue, RecordValue, SetValue, FieldValues, no_field_values, one_field_value}

-- ---- lists and options

module _ {X : Type 0} (P : X → Type 0) where
  pub all-front : (xs ys : List X) → AllByRecursion P (xs ++ ys) → AllByRecursion P xs
  all-front [] ys h = tt
  all-front (x ∷ xs) ys h = (h.0, all-front xs ys h.1)

  pub all-back : (xs ys : List X) → AllByRecursion P (xs ++ ys) → AllByRecursion P ys
  all-back [] ys h = h
  all-back (x ∷ xs) ys h = all-back xs ys h.1

  pub all-last : (xs : List X) (y : X) → AllByRecursion P (xs ++ y ∷ []) → P y
  all-last xs y h = (all-back xs (y ∷ []) h).0

pub inside : (t u : PlainType) → Some t ≡ Some u → t ≡ u
inside t u e = ap (λ o. unwrap_or o t) e

pub chosen : (b : Bool) (t u : PlainType) → then_some b t ≡ Some u → (b ≡ true) × (t ≡ u)
chosen true t u h = (refl, inside t u h)
chosen false t u h = cc

pub none-first : (f g : Option Fault) → option_or f g ≡ None → f ≡ None
none-first None g h = refl
none-first (Some f) g h = cc

pub none_both : (f g : Option Fault) → f ≡ None → g ≡ None → option_or f g ≡ None
none_both None g h k = k
none_both (Some f) g h k = cc

pub none-second : (f g : Option Fault) → option_or f g ≡ None → g ≡ None
none-second None g h = h
none-second (Some f) g h = cc

unless-none : (b : Bool) (f : Fault) → fault_unless b f ≡ None → b ≡ true
unless-none true f h = refl
unless-none false f h = cc

pub not-passed : (b : Bool) (f : Option Fault) → b ≡ false → unless b f ≡ None → f ≡ None
not-passed true f e h = cc
not-passed false f e h = h

pub is_type-some : (o : Option PlainType) (t : PlainType) → is_type o t ≡ true → o ≡ Some t
is_type-some None t h = cc
is_type-some (Some u) t h = ap Some (eq_same u t h)

-- ---- texts

code_points : (s : List ℕ) → list_all (λ c. nat_le c greatest_code_point) s ≡ true → AreCodePoints s
code_points [] h = tt
code_points (c ∷ s) h = (leb-true c greatest_code_point (first_so (nat_le c greatest_code_point) (list_all (λ d. nat_le d greatest_code_point) s) h), code_points s (second_so (nat_le c greatest_code_point) (list_all (λ d. nat_le d greatest_code_point) s) h))

same_text : (s t : List ℕ) → bytes_eq s t ≡ true → bytes_eq (chars t) (chars s) ≡ true
same_text s t h = ap (λ u. bytes_eq (chars t) (chars u)) ((bytes_eq-Decides s t).0 h) ∙ bytes_itself (chars t)

member_found : (i : List ℕ) (ms : List (List ℕ)) → list_any (bytes_eq i) ms ≡ true → list_any (λ m. bytes_eq (chars m) (chars i)) ms ≡ true
member_found i [] h = cc
member_found i (m ∷ ms) h = from (bytes_eq i m) refl (member_found i ms) h
  where
    from : (b : Bool) → bytes_eq i m ≡ b → (list_any (bytes_eq i) ms ≡ true → list_any (λ n. bytes_eq (chars n) (chars i)) ms ≡ true) → (b || list_any (bytes_eq i) ms) ≡ true → (bytes_eq (chars m) (chars i) || list_any (λ n. bytes_eq (chars n) (chars i)) ms) ≡ true
    from true e again k = ap (λ b. b || list_any (λ n. bytes_eq (chars n) (chars i)) ms) (same_text i m e)
    from false e again k = or_second (bytes_eq (chars m) (chars i)) (list_any (λ n. bytes_eq (chars n) (chars i)) ms) (again k)

-- ---- operators

module _ (enums : Enums) where
  abbrev pub AreBelow : (ℕ → ℕ → ℕ → ℕ) → Type 0
  AreBelow f = (n a b : ℕ) → a < 2 ^ n → b < 2 ^ n → f n a b < 2 ^ n

  two_bits : (f : ℕ → ℕ → ℕ → ℕ) → AreBelow f → (n : ℕ) (v w : Value) → IsValue enums (BitVecType n) v → IsValue enums (BitVecType n) w → IsValue enums (BitVecType n) (to_bits f v w)
  two_bits f fits n (BitVecValue m a) (BitVecValue k b) h g = (h.0, rw h.0 (fits n a b h.1 g.1))
  two_bits f fits n (BitVecValue m a) w h g = elim g [ ]
  two_bits f fits n v w h g = elim h [ ]

  two_bits_at : (f : ℕ → ℕ → ℕ → ℕ) → AreBelow f → (t : PlainType) (v w : Value) → is_bits t ≡ true → IsValue enums t v → IsValue enums t w → IsValue enums t (to_bits f v w)
  two_bits_at f fits (BitVecType n) v w e h g = two_bits f fits n v w h g
  two_bits_at f fits t v w e h g = cc

  pub bits_result : (f : ℕ → ℕ → ℕ → ℕ) → AreBelow f → (t u ty : PlainType) (v w : Value) → then_some (bits_and_bits t u) t ≡ Some ty → IsValue enums t v → IsValue enums u w → IsValue enums ty (to_bits f v w)
  bits_result f fits t u ty v w e h g =
      let c : (bits_and_bits t u ≡ true) × (t ≡ ty) = chosen (bits_and_bits t u) t ty e in
      let s : t ≡ u = eq_same t u (second_so (is_bits t) (type_eq t u) c.0) in
      let k : IsValue enums t w = subst (λ x. IsValue enums x w) (sym s) g in
      subst (λ x. IsValue enums x (to_bits f v w)) c.1 (two_bits_at f fits t v w (first_so (is_bits t) (type_eq t u) c.0) h k)

  pub negated_at : (t : PlainType) (v : Value) → is_bits t ≡ true → IsValue enums t v → IsValue enums t (BitVecValue (width v) (bits.bvneg (width v) (number v)))
  negated_at (BitVecType n) (BitVecValue m a) e h = (h.0, rw h.0 (ranges.below n (2 ^ n - a)))
  negated_at (BitVecType n) v e h = elim h [ ]
  negated_at t v e h = cc

  truth_result : (b : Bool) (ty : PlainType) (c : Bool) → then_some b BoolType ≡ Some ty → IsValue enums ty (BoolValue c)
  truth_result b ty c h = subst (λ u. IsValue enums u (BoolValue c)) (chosen b BoolType ty h).1 tt

  choice : (g : Bool) (t : PlainType) (v w : Value) → IsValue enums t v → IsValue enums t w → IsValue enums t (cond g v w)
  choice true t v w h k = h
  choice false t v w h k = k

  pub looked_up : (out : PlainType) (es : List (Value × Value)) (d v : Value) → AllByRecursion (λ e. IsValue enums out e.1) es → IsValue enums out d → IsValue enums out (value_among es d v)
  looked_up out [] d v h g = g
  looked_up out (e ∷ es) d v h g = from (value_eq e.0 v) (looked_up out es d v h.1 g)
    where
      from : (b : Bool) → IsValue enums out (value_among es d v) → IsValue enums out (elim b [ true ↦ e.1 | false ↦ value_among es d v ])
      from true k = h.0
      from false k = k

  option_result : (t ty : PlainType) (v d : Value) → inner_type t ≡ Some ty → IsValue enums t v → IsValue enums ty d → IsValue enums ty (value_inside d v)
  option_result (OptionType u) ty NoneValue d h k g = g
  option_result (OptionType u) ty (SomeValue w) d h k g = subst (λ x. IsValue enums x w) (inside u ty h) k
  option_result (OptionType u) ty v d h k g = elim k [ ]
  option_result t ty v d h k g = cc

  field_result : (x : List ℕ) (fs : AttributeTypes) (gs : FieldValues) (ty : PlainType) → attribute_in x fs ≡ Some ty → AreFieldValues enums fs gs → IsValue enums ty (field_value x gs)
  field_result x no_attributes gs ty h k = cc
  field_result x (attribute a t fs) no_field_values ty h k = elim k [ ]
  field_result x (attribute a t fs) (one_field_value b v gs) ty h k = from (bytes_eq x a) (bytes_eq x b) (ap (bytes_eq x) (sym k.0)) h (λ e. field_result x fs gs ty e k.2)
    where
      from : (c d : Bool) → c ≡ d → ◌≡◌ {A = Option PlainType} (elim c [ true ↦ Some t | false ↦ attribute_in x fs ]) (Some ty) → (attribute_in x fs ≡ Some ty → IsValue enums ty (field_value x gs)) → IsValue enums ty (elim d [ true ↦ v | false ↦ field_value x gs ])
      from true true p e again = subst (λ u. IsValue enums u v) (inside t ty e) k.1
      from false false p e again = again e
      from true false p e again = cc
      from false true p e again = cc

  record_result : (x : List ℕ) (t ty : PlainType) (v : Value) → attribute_type x t ≡ Some ty → IsValue enums t v → IsValue enums ty (attribute_value x v)
  record_result x (RecordType fs) ty (RecordValue gs) h k = field_result x fs gs ty h k
  record_result x (RecordType fs) ty v h k = elim k [ ]
  record_result x t ty v h k = cc

  extended_result : (k : ℕ) (t ty : PlainType) (v : Value) → extended_type k t ≡ Some ty → IsValue enums t v → IsValue enums ty (BitVecValue (width v + k) (number v))
  extended_result k (BitVecType n) ty (BitVecValue m a) h g =
      subst (λ u. IsValue enums u (BitVecValue (m + k) a)) (chosen (nat_le (n + k) 128) (BitVecType (n + k)) ty h).1 (ap (λ j. j + k) g.0, ranges.wider n k a g.1)
  extended_result k (BitVecType n) ty v h g = elim g [ ]
  extended_result k t ty v h g = cc

  pub set_value : (t : PlainType) (vs : List Value) → AllByRecursion (λ v. IsValue enums t v) vs → IsValue enums (SetType t) (set_of vs)
  set_value t vs h =
      (ap (ascends value_cmp) (list-values (sorted_values vs)) ∙ ascends-sorted vs, subst (AllByRecursion (λ v. IsValue enums t v)) (sym (list-values (sorted_values vs))) (all-sorted (λ v. IsValue enums t v) vs h))

  intersected_at : (t : PlainType) (v w : Value) → is_set t ≡ true → IsValue enums t v → IsValue enums t (set_of (intersection (elements v) (elements w)))
  intersected_at (SetType t) (SetValue vs) w e h = set_value t (intersection (list_of_values vs) (elements w)) (all-filtered (λ v. IsValue enums t v) (λ v. is_member v (elements w)) (list_of_values vs) h.1)
  intersected_at (SetType t) v w e h = elim h [ ]
  intersected_at t v w e h = cc

  intersection_result : (t u ty : PlainType) (v w : Value) → then_some (is_set t && type_eq t u) t ≡ Some ty → IsValue enums t v → IsValue enums ty (set_of (intersection (elements v) (elements w)))
  intersection_result t u ty v w e h =
      let c : ((is_set t && type_eq t u) ≡ true) × (t ≡ ty) = chosen (is_set t && type_eq t u) t ty e in
      subst (λ x. IsValue enums x (set_of (intersection (elements v) (elements w)))) c.1 (intersected_at t v w (first_so (is_set t) (type_eq t u) c.0) h)

  prefix_result : (n : ℕ) (p : Option ℕ) → IsPrefix n p → IsValue enums (OptionType (BitVecType n)) (prefix_value n p)
  prefix_result n None h = tt
  prefix_result n (Some k) h = (refl, h)

  signed_fits : (a : ℕ) (b : Bool) → is_negative 64 a ≡ b → a < 2 ^ 64 → IsLong (cond b (negsuc (2 ^ 64 - 1 - a)) (pos a))
  signed_fits a true e h = let p : 2 ^ 64 ≤ 2 * a = leb-true (2 ^ 64) (2 * a) e in record { sfits = omega arith }
  signed_fits a false e h = let p : 2 * a < 2 ^ 64 = leb-false (2 ^ 64) (2 * a) e in record { sfits = omega arith }

  signed_is : (v : Value) → IsValue enums (BitVecType 64) v → IsLong (signed 64 (number v))
  signed_is (BitVecValue m a) h = signed_fits a (is_negative 64 a) refl h.1
  signed_is v h = elim h [ ]

  pub extension_result : (I : Interpretation) (o : ExtensionOp) (v : Value) → IsValue enums (extension_signature o).0 v → IsGivenSelector enums I o → IsValue enums (extension_signature o).1 (apply_extension I o v)
  extension_result I DecimalValOp (ExtensionValue (DecimalOf z)) h g = (refl, ranges.bits_of-below 64 z)
  extension_result I DatetimeValOp (ExtensionValue (DatetimeOf z)) h g = (refl, ranges.bits_of-below 64 z)
  extension_result I DurationValOp (ExtensionValue (DurationOf z)) h g = (refl, ranges.bits_of-below 64 z)
  extension_result I DatetimeOfBitVecOp v h g = signed_is v h
  extension_result I DurationOfBitVecOp v h g = signed_is v h
  extension_result I IpIsV4Op (ExtensionValue (Ipv4Of a p)) h g = tt
  extension_result I IpIsV4Op (ExtensionValue (Ipv6Of a p)) h g = tt
  extension_result I IpAddrV4Op (ExtensionValue (Ipv4Of a p)) h g = (refl, h.0)
  extension_result I IpAddrV6Op (ExtensionValue (Ipv6Of a p)) h g = (refl, h.0)
  extension_result I IpPrefixV4Op (ExtensionValue (Ipv4Of a p)) h g = prefix_result 5 p h.1
  extension_result I IpPrefixV6Op (ExtensionValue (Ipv6Of a p)) h g = prefix_result 7 p h.1
  extension_result I IpAddrV4Op (ExtensionValue (Ipv6Of a p)) h g = looked_up (BitVecType 32) (I.other_family IpAddrV4Op).entries (I.other_family IpAddrV4Op).elsewhere (ExtensionValue (Ipv6Of a p)) g.answers g.elsewhere
  extension_result I IpAddrV6Op (ExtensionValue (Ipv4Of a p)) h g = looked_up (BitVecType 128) (I.other_family IpAddrV6Op).entries (I.other_family IpAddrV6Op).elsewhere (ExtensionValue (Ipv4Of a p)) g.answers g.elsewhere
  extension_result I IpPrefixV4Op (ExtensionValue (Ipv6Of a p)) h g = looked_up (OptionType (BitVecType 5)) (I.other_family IpPrefixV4Op).entries (I.other_family IpPrefixV4Op).elsewhere (ExtensionValue (Ipv6Of a p)) g.answers g.elsewhere
  extension_result I IpPrefixV6Op (ExtensionValue (Ipv4Of a p)) h g = looked_up (OptionType (BitVecType 7)) (I.other_family IpPrefixV6Op).entries (I.other_family IpPrefixV6Op).elsewhere (ExtensionValue (Ipv4Of a p)) g.answers g.elsewhere
  extension_result I o (ExtensionValue x) h g = elim h [ ]
  extension_result I o v h g = elim h [ ]

  -- each argument has a value of its type
  abbrev HaveValues : Interpretation → PlainTerms → Type 0
  HaveValues I no_terms = Unit {0}
  HaveValues I (one_term t ts) = IsValue enums (type_of t) (meaning I t) × HaveValues I ts

  applied : (I : Interpretation) (o : PlainOp) (ts : PlainTerms) (ty : PlainType) → result_type o (types_of ts) ≡ Some ty → HaveValues I ts → IsGivenOp enums I o ty → IsValue enums ty (apply I o ty (meanings I ts))
  applied I NotOp (one_term a no_terms) ty h k g = truth_result (type_eq (type_of a) BoolType) ty _ h
  applied I AndOp (one_term a (one_term b no_terms)) ty h k g = truth_result (type_eq (type_of a) BoolType && type_eq (type_of b) BoolType) ty _ h
  applied I OrOp (one_term a (one_term b no_terms)) ty h k g = truth_result (type_eq (type_of a) BoolType && type_eq (type_of b) BoolType) ty _ h
  applied I EqOp (one_term a (one_term b no_terms)) ty h k g = truth_result (type_eq (type_of a) (type_of b)) ty _ h
  applied I IteOp (one_term c (one_term a (one_term b no_terms))) ty h k g =
      let e : ((type_eq (type_of c) BoolType && type_eq (type_of a) (type_of b)) ≡ true) × (type_of a ≡ ty) = chosen (type_eq (type_of c) BoolType && type_eq (type_of a) (type_of b)) (type_of a) ty h in
      let s : type_of a ≡ type_of b = eq_same (type_of a) (type_of b) (second_so (type_eq (type_of c) BoolType) (type_eq (type_of a) (type_of b)) e.0) in
      choice (truth (meaning I c)) ty (meaning I a) (meaning I b) (subst (λ x. IsValue enums x (meaning I a)) e.1 k.1.0) (subst (λ x. IsValue enums x (meaning I b)) (sym s ∙ e.1) k.1.1.0)
  applied I (UufOp f) (one_term a no_terms) ty h k g =
      let e : (type_eq (type_of a) f.argument ≡ true) × (f.output ≡ ty) = chosen (type_eq (type_of a) f.argument) f.output ty h in
      subst (λ x. IsValue enums x (value_at (I.function f) (meaning I a))) e.1 (looked_up f.output (I.function f).entries (I.function f).elsewhere (meaning I a) g.answers g.elsewhere)
  applied I BvnegOp (one_term a no_terms) ty h k g =
      let e : (is_bits (type_of a) ≡ true) × (type_of a ≡ ty) = chosen (is_bits (type_of a)) (type_of a) ty h in
      subst (λ x. IsValue enums x (BitVecValue (width (meaning I a)) (bits.bvneg (width (meaning I a)) (number (meaning I a))))) e.1 (negated_at (type_of a) (meaning I a) e.0 k.0)
  applied I (BitsOp o) (one_term a (one_term b no_terms)) ty h k g = bits_result (bits_entry o).function (bits_entry-below o) (type_of a) (type_of b) ty (meaning I a) (meaning I b) h k.0 k.1.0
  applied I (TestOp o) (one_term a (one_term b no_terms)) ty h k g = truth_result (bits_and_bits (type_of a) (type_of b)) ty _ h
  applied I (OverflowOp o) (one_term a (one_term b no_terms)) ty h k g = truth_result (bits_and_bits (type_of a) (type_of b)) ty _ h
  applied I BvnegoOp (one_term a no_terms) ty h k g = truth_result (is_bits (type_of a)) ty _ h
  applied I (ZeroExtendOp n) (one_term a no_terms) ty h k g = extended_result n (type_of a) ty (meaning I a) h k.0
  applied I SetMemberOp (one_term a (one_term b no_terms)) ty h k g = truth_result (type_eq (type_of b) (SetType (type_of a))) ty _ h
  applied I SetSubsetOp (one_term a (one_term b no_terms)) ty h k g = truth_result (is_set (type_of a) && type_eq (type_of a) (type_of b)) ty _ h
  applied I SetInterOp (one_term a (one_term b no_terms)) ty h k g = intersection_result (type_of a) (type_of b) ty (meaning I a) (meaning I b) h k.0
  applied I OptionGetOp (one_term a no_terms) ty h k g = option_result (type_of a) ty (meaning I a) (I.inside_none ty) h k.0 g
  applied I (RecordGetOp x) (one_term a no_terms) ty h k g = record_result x (type_of a) ty (meaning I a) h k.0
  applied I (StringLikeOp p) (one_term a no_terms) ty h k g = truth_result (type_eq (type_of a) StringType) ty _ h
  applied I (ExtOp o) (one_term a no_terms) ty h k g =
      let e : (type_eq (type_of a) (extension_signature o).0 ≡ true) × ((extension_signature o).1 ≡ ty) = chosen (type_eq (type_of a) (extension_signature o).0) (extension_signature o).1 ty h in
      let s : type_of a ≡ (extension_signature o).0 = eq_same (type_of a) (extension_signature o).0 e.0 in
      subst (λ x. IsValue enums x (apply_extension I o (meaning I a))) e.1 (extension_result I o (meaning I a) (subst (λ x. IsValue enums x (meaning I a)) s k.0) g)
  applied I o ts ty h k g = cc

  -- ---- terms

  id_at : (e i : List ℕ) (members : Option (List (List ℕ))) → entity_fault e i members ≡ None → IsId members (chars i)
  id_at e i None h = code_points (chars i) (unless-none (is_string i) _ h)
  id_at e i (Some ms) h = member_found i ms (unless-none (list_any (bytes_eq i) ms) _ h)

  literal_result : (l : PlainLiteral) → literal_fault enums l ≡ None → IsFormedLiteral l → IsValue enums (literal_type l) (literal_value l)
  literal_result (BitVecLiteral n a) h f = (refl, f)
  literal_result (BoolLiteral b) h f = tt
  literal_result (EntityLiteral e i) h f = (refl, id_at e i (members_of enums e) h)
  literal_result (ExtensionLiteral (DecimalOf z)) h f = f
  literal_result (ExtensionLiteral (Ipv4Of a p)) h f = f
  literal_result (ExtensionLiteral (Ipv6Of a p)) h f = f
  literal_result (ExtensionLiteral (DatetimeOf z)) h f = f
  literal_result (ExtensionLiteral (DurationOf z)) h f = f
  literal_result (StringLiteral s) h f = code_points (chars s) (unless-none (is_string s) _ h)

  -- what is typed is not passed over
  pub walked : (o : PlainOp) (us : List PlainType) (t : PlainType) → result_type o us ≡ Some t → is_passed_over o us t ≡ false
  walked BvnegoOp (u ∷ []) BoolType h = ap not (chosen (is_bits u) BoolType BoolType h).0
  walked BvnegoOp (u ∷ []) t h = refl
  walked o us t h = refl

  elements_valued : (I : Interpretation) (t : PlainType) (ts : PlainTerms) → list_all (type_eq t) (types_of ts) ≡ true → HaveValues I ts → AllByRecursion (λ v. IsValue enums t v) (meanings I ts)
  elements_valued I t no_terms h k = tt
  elements_valued I t (one_term u us) h k =
      let e : t ≡ type_of u = eq_same t (type_of u) (first_so (type_eq t (type_of u)) (list_all (type_eq t) (types_of us)) h) in
      (subst (λ x. IsValue enums x (meaning I u)) (sym e) k.0, elements_valued I t us (second_so (type_eq t (type_of u)) (list_all (type_eq t) (types_of us)) h) k.1)

  abbrev Formed : List PlainTerm → Type 0
  Formed ts = AllByRecursion IsFormedNode ts

  abbrev Given : Interpretation → List PlainTerm → Type 0
  Given I ts = AllByRecursion (IsGiven enums I) ts

  mutual
    pub valued : (I : Interpretation) (t : PlainTerm) → typed t ≡ true → term_fault enums t ≡ None → Formed (subterms t) → Given I (subterms t) → IsValue enums (type_of t) (meaning I t)
    valued I (Application o ts t) h f w g =
        let r : result_type o (types_of ts) ≡ Some t = is_type-some (result_type o (types_of ts)) t (second_so (typed_all ts) (is_type (result_type o (types_of ts)) t) h) in
        let e : option_or (type_fault enums t) (option_or (terms_fault enums ts) (operator_fault enums o (types_of ts))) ≡ None = not-passed (is_passed_over o (types_of ts) t) _ (walked o (types_of ts) t r) f in
        applied I o ts t r (all_valued I ts (first_so (typed_all ts) (is_type (result_type o (types_of ts)) t) h) (none-first (terms_fault enums ts) (operator_fault enums o (types_of ts)) (none-second (type_fault enums t) _ e)) (all-front IsFormedNode (subterms_of_all ts) (Application o ts t ∷ []) w) (all-front (IsGiven enums I) (subterms_of_all ts) (Application o ts t ∷ []) g)) (all-last (IsGiven enums I) (subterms_of_all ts) (Application o ts t) g)
    valued I (NoneTerm t) h f w g = tt
    valued I (LiteralTerm l) h f w g = literal_result l (none-second (type_fault enums (literal_type l)) (literal_fault enums l) f) w.0
    valued I (RecordTerm fs) h f w g =
        fields_valued I fs h (none-second (type_fault enums (RecordType (field_types fs))) (fields_fault enums fs) f) (all-front IsFormedNode (subterms_of_fields fs) (RecordTerm fs ∷ []) w) (all-front (IsGiven enums I) (subterms_of_fields fs) (RecordTerm fs ∷ []) g)
    valued I (SetTerm t ts) h f w g =
        set_value t (meanings I ts) (elements_valued I t ts (typed_elements t ts (second_so (typed_all ts) (are_elements t ts) h)) (all_valued I ts (first_so (typed_all ts) (are_elements t ts) h) (none-second (type_fault enums t) (terms_fault enums ts) f) (all-front IsFormedNode (subterms_of_all ts) (SetTerm t ts ∷ []) w) (all-front (IsGiven enums I) (subterms_of_all ts) (SetTerm t ts ∷ []) g)))
    valued I (SomeTerm t) h f w g =
        valued I t h (none-second (type_fault enums (type_of t)) (term_fault enums t) f) (all-front IsFormedNode (subterms t) (SomeTerm t ∷ []) w) (all-front (IsGiven enums I) (subterms t) (SomeTerm t ∷ []) g)
    valued I (VariableTerm id t) h f w g = g.0

    all_valued : (I : Interpretation) (ts : PlainTerms) → typed_all ts ≡ true → terms_fault enums ts ≡ None → Formed (subterms_of_all ts) → Given I (subterms_of_all ts) → HaveValues I ts
    all_valued I no_terms h f w g = tt
    all_valued I (one_term t ts) h f w g =
        (valued I t (first_so (typed t) (typed_all ts) h) (none-first (term_fault enums t) (terms_fault enums ts) f) (all-front IsFormedNode (subterms t) (subterms_of_all ts) w) (all-front (IsGiven enums I) (subterms t) (subterms_of_all ts) g), all_valued I ts (second_so (typed t) (typed_all ts) h) (none-second (term_fault enums t) (terms_fault enums ts) f) (all-back IsFormedNode (subterms t) (subterms_of_all ts) w) (all-back (IsGiven enums I) (subterms t) (subterms_of_all ts) g))

    fields_valued : (I : Interpretation) (fs : PlainFields) → typed_fields fs ≡ true → fields_fault enums fs ≡ None → Formed (subterms_of_fields fs) → Given I (subterms_of_fields fs) → AreFieldValues enums (field_types fs) (field_meanings I fs)
    fields_valued I no_fields h f w g = tt
    fields_valued I (one_field a t fs) h f w g =
        (refl, valued I t (first_so (typed t) (typed_fields fs) h) (none-first (term_fault enums t) (fields_fault enums fs) f) (all-front IsFormedNode (subterms t) (subterms_of_fields fs) w) (all-front (IsGiven enums I) (subterms t) (subterms_of_fields fs) g), fields_valued I fs (second_so (typed t) (typed_fields fs) h) (none-second (term_fault enums t) (fields_fault enums fs) f) (all-back IsFormedNode (subterms t) (subterms_of_fields fs) w) (all-back (IsGiven enums I) (subterms t) (subterms_of_fields fs) g))
