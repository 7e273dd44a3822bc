-- Carried values have the sort of their type.
use Rattle.std.proofs.Common.{◌≡◌, ℕ, suc, ◌+◌, ◌^◌, ◌<◌, ◌≤◌, Bool, true, false, cond, ◌||◌, length, List, [], ◌∷◌, map, refl, sym, ap, ◌∙◌, subst, arith}
use Rattle.std.specs.Prelude.{codes, bytes_eq, nat_le, nat_lt, ◌==◌, ℤ, Option, Some, None}
use Rattle.std.specs.Str.{chars}
use Rattle.std.specs.List.{AllByRecursion, list_all, list_any}
use Rattle.std.proofs.lemmas.Bool.{leb-false, ltb-false, eq-eqb, and_from}
use Rattle.law_numbers.specs.BitVectors.{bits_of}
use Rattle.law_numbers.proofs.BitRanges.{bits_of-below}
use Rattle.law_terms.specs.Plain.{ExtensionKind, IpAddrKind, DecimalKind, DatetimeKind, DurationKind, PlainType, OptionType, BitVecType, BoolType, EntityType, ExtensionType, StringType, RecordType, SetType, AttributeTypes, no_attributes, attribute, PlainExtension, DecimalOf, Ipv4Of, Ipv6Of, DatetimeOf, DurationOf}
use Rattle.law_terms.specs.Values.{Value, BoolValue, BitVecValue, StringValue, EntityValue, ExtensionValue, NoneValue, SomeValue, RecordValue, SetValue, Values, no_values, one_value, FieldValues, no_field_values, one_field_value}
use Rattle.law_scripts.specs.ScriptValues.{ScriptValue, BitsOf, TextOf, ConstructorOf, ScriptValues, no_script_values, one_script_value}
use Rattle.law_terms.specs.TypeValues.{is_code_point, greatest_code_point, IsValue, AreFieldValues, IsExtension, IsId, IsPrefix, AreCodePoints, Enums, members_of, AreEnums}
use Rattle.law_terms.specs.ValueOrder.{list_of_values}
use Rattle.law_numbers.specs.Widths.{is_width, are_bits}
use Rattle.law_texts.specs.Lexicon.{Name}
use Rattle.law_scripts.specs.ScriptOrder as script
use Rattle.law_texts.specs.Reading.{Expression, Leaf, Node, Expressions, Nil, Cons}
use Rattle.law_scripts.specs.Script.{name}
use Rattle.law_texts.specs.Options.{◌>>=◌}
use Rattle.law_scripts.specs.Sorts.{Entries, string_sort, bit_sort, same_sort, paired, instance, instances, fields_at, constructor_fields, has_sort_in, have_sorts_in, all_have_sort_in, option_sort}
use Rattle.law_lines.specs.Entries.{attribute_sorts}
use Rattle.law_lines.specs.EntryNames.{place_of, member_name}
use Rattle.law_lines.specs.NameTables.{Tables}
use Rattle.law_lines.specs.Naming.{type_name, type_sort}
use Rattle.law_theorem.specs.Carry.{alone, carry_prefix, carry_extension, carry_entity, carry, carry_values, carry_fields}
use Rattle.law_theorem.specs.CarriedSorts.{shown_members, shown_entity, shown_kind, shown_option, IsDatatype, DeclaresOption, IsNamed, TypeIsDeclared, AttributesAreDeclared}
use Rattle.law_theorem.proofs.Ordered.{stays_sorted}
use Rattle.law_terms.proofs.ValueOrder.{bytes_itself}
use Rattle.std.proofs.lemmas.Slice.Eq.{bytes_eq-Decides}
use Rattle.law_scripts.specs.DeclarationLines.{Constructors, at_place}

-- ---- tests from facts

pub leb_from : (a b : ℕ) → a ≤ b → nat_le a b ≡ true
leb_from a b h = by (nat_le a b) refl
  where
    by : (t : Bool) → nat_le a b ≡ t → t ≡ true
    by true e = refl
    by false e = let l : b < a = leb-false a b e in absurd (omega arith)

pub ltb_from : (a b : ℕ) → a < b → nat_lt a b ≡ true
ltb_from a b h = by (nat_lt a b) refl
  where
    by : (t : Bool) → nat_lt a b ≡ t → t ≡ true
    by true e = refl
    by false e = let l : b ≤ a = ltb-false a b e in absurd (omega arith)

pub bits_from : (width a : ℕ) → 1 ≤ width → width ≤ 128 → a < 2 ^ width → are_bits width a ≡ true
bits_from width a h k l = and_from (is_width width) (nat_lt a (2 ^ width)) (and_from (nat_le 1 width) (nat_le width 128) (leb_from 1 width h) (leb_from width 128 k)) (ltb_from a (2 ^ width) l)

-- ---- sorts without parameters stay

mutual
  pub instance_itself : (e : Expression) → instance [] e ≡ e
  instance_itself (Leaf (Name n)) = refl
  instance_itself (Leaf a) = refl
  instance_itself (Node es) = ap Node (instances_themselves es)

  instances_themselves : (es : Expressions) → instances [] es ≡ es
  instances_themselves Nil = refl
  instances_themselves (Cons e es) = λ i. Cons (instance_itself e i) (instances_themselves es i)

pub fields_themselves : (es : List Expression) → map (instance []) es ≡ es
fields_themselves [] = refl
fields_themselves (e ∷ es) = λ i. instance_itself e i ∷ fields_themselves es i

pub fields_named : (n : List ℕ) (fields : List Expression) → fields_at n [] fields (name n) ≡ Some fields
fields_named n fields =
    ap (λ b. cond b (Some []) None >>= λ (es : List Expression). cond (length es == 0) (Some (map (instance (paired [] es)) fields)) None) (bytes_itself n) ∙ ap (λ x. Some x) (fields_themselves fields)

module _ (here : Entries) where
  -- a value of a constructor that stands in the declaration
  pub built : (d : List ℕ) (ps : List (List ℕ)) (cs : Constructors) (place : ℕ) (c : List ℕ) (fields sorts : List Expression) (sort : Expression) (vs : ScriptValues)
      → IsDatatype here d ps cs → at_place cs place ≡ Some (c, fields) → fields_at d ps fields sort ≡ Some sorts → have_sorts_in here sorts vs ≡ true
      → has_sort_in here sort (ConstructorOf place c vs) ≡ true
  built d ps cs place c fields sorts sort vs x e f h =
      ap (λ y. from (constructor_fields y place sort)) (x.builds place c fields e)
      ∙ (ap (λ b. from (cond b (fields_at d ps fields sort) None)) (eq-eqb place place refl)
      ∙ (ap from f ∙ h))
    where
      from : Option (List Expression) → Bool
      from o = elim o [ Some fs ↦ have_sorts_in here fs vs | None ↦ false ]

  pub built_named : (n : List ℕ) (cs : Constructors) (place : ℕ) (c : List ℕ) (fields : List Expression) (vs : ScriptValues)
      → IsNamed here n cs → at_place cs place ≡ Some (c, fields) → have_sorts_in here fields vs ≡ true → has_sort_in here (name n) (ConstructorOf place c vs) ≡ true
  built_named n cs place c fields vs x e h = built n [] cs place c fields fields (name n) vs x.datatype e (fields_named n fields) h

  code_points : (s : List ℕ) → AreCodePoints s → list_all is_code_point s ≡ true
  code_points [] h = refl
  code_points (c ∷ s) h = and_from (is_code_point c) (list_all is_code_point s) (leb_from c greatest_code_point h.0) (code_points s h.1)

  -- ---- members

  member_at : (n : List ℕ) (from : ℕ) (ms : List (List ℕ)) (i : List ℕ) → list_any (λ m. bytes_eq (chars m) i) ms ≡ true
      → at_place (shown_members n from ms) (place_of i (map chars ms)) ≡ Some (member_name n (from + place_of i (map chars ms)), [])
  member_at n from [] i h = cc
  member_at n from (m ∷ ms) i h = by (bytes_eq i (chars m)) refl (λ e. member_at n (suc from) ms i e)
    where
      by : (b : Bool) → bytes_eq i (chars m) ≡ b
          → (list_any (λ x. bytes_eq (chars x) i) ms ≡ true → at_place (shown_members n (suc from) ms) (place_of i (map chars ms)) ≡ Some (member_name n (suc from + place_of i (map chars ms)), []))
          → at_place (shown_members n from (m ∷ ms)) (cond b 0 (suc (place_of i (map chars ms)))) ≡ Some (member_name n (from + cond b 0 (suc (place_of i (map chars ms)))), [])
      by true e again = ap (λ k. Some (member_name n k, [])) (let p : from ≡ from + 0 = omega arith in p)
      by false e again = again (later (bytes_eq (chars m) i) refl) ∙ ap (λ k. Some (member_name n k, [])) (let p : suc from + place_of i (map chars ms) ≡ from + suc (place_of i (map chars ms)) = omega arith in p)
        where
          later : (t : Bool) → bytes_eq (chars m) i ≡ t → list_any (λ x. bytes_eq (chars x) i) ms ≡ true
          later false f = sym (ap (λ b. b || list_any (λ x. bytes_eq (chars x) i) ms) f) ∙ h
          later true f = absurd (let g : chars m ≡ i = (bytes_eq-Decides (chars m) i).0 f in let k : bytes_eq i (chars m) ≡ true = ap (λ x. bytes_eq i x) g ∙ bytes_itself i in let z : true ≡ false = sym k ∙ e in cc)

  entity_sorted : (members : Option (List (List ℕ))) (n i : List ℕ) → IsNamed here n (shown_entity members n) → IsId members i → has_sort_in here (name n) (carry_entity members n i) ≡ true
  entity_sorted None n i x h = built_named n (shown_entity None n) 0 n (string_sort ∷ []) (alone (TextOf i)) x refl (and_from (list_all is_code_point i) true (code_points i h) refl)
  entity_sorted (Some members) n i x h =
      built_named n (shown_entity (Some members) n) (place_of i (map chars members)) (member_name n (place_of i (map chars members))) [] no_script_values x
      (member_at n 0 members i h ∙ ap (λ k. Some (member_name n k, [])) (let p : 0 + place_of i (map chars members) ≡ place_of i (map chars members) = omega arith in p)) refl

  module _ (always : DeclaresOption here) where
    pub none_sorted : (sort : Expression) → has_sort_in here (option_sort sort) (ConstructorOf 0 (codes "none") no_script_values) ≡ true
    none_sorted sort = built (codes "Option") (codes "X" ∷ []) shown_option 0 (codes "none") [] [] (option_sort sort) no_script_values always.options refl refl refl

    pub some_sorted : (sort : Expression) (x : ScriptValue) → has_sort_in here sort x ≡ true → has_sort_in here (option_sort sort) (ConstructorOf 1 (codes "some") (alone x)) ≡ true
    some_sorted sort x h =
        built (codes "Option") (codes "X" ∷ []) shown_option 1 (codes "some") (name (codes "X") ∷ []) (sort ∷ []) (option_sort sort) (alone x) always.options refl refl (and_from (has_sort_in here sort x) true h refl)

    width_itself : (width a : ℕ) → are_bits width a ≡ true → has_sort_in here (bit_sort width) (BitsOf width a) ≡ true
    width_itself width a h = and_from (same_sort (bit_sort width) (bit_sort width)) (are_bits width a) (and_from (width == width) true (eq-eqb width width refl) refl) h

    prefix_sorted : (width : ℕ) (p : Option ℕ) → 1 ≤ width → width ≤ 128 → IsPrefix width p → has_sort_in here (option_sort (bit_sort width)) (carry_prefix width p) ≡ true
    prefix_sorted width None h k l = none_sorted (bit_sort width)
    prefix_sorted width (Some p) h k l = some_sorted (bit_sort width) (BitsOf width p) (width_itself width p (bits_from width p h k l))

    long_sorted : (z : ℤ) → have_sorts_in here (bit_sort 64 ∷ []) (alone (BitsOf 64 (bits_of 64 z))) ≡ true
    long_sorted z = and_from (has_sort_in here (bit_sort 64) (BitsOf 64 (bits_of 64 z))) true (width_itself 64 (bits_of 64 z) (bits_from 64 (bits_of 64 z) (omega arith) (omega arith) (bits_of-below 64 z))) refl

    address_sorted : (width bits a : ℕ) (p : Option ℕ) → 1 ≤ width → width ≤ 128 → 1 ≤ bits → bits ≤ 128 → a < 2 ^ width → IsPrefix bits p
        → have_sorts_in here (bit_sort width ∷ option_sort (bit_sort bits) ∷ []) (one_script_value (BitsOf width a) (alone (carry_prefix bits p))) ≡ true
    address_sorted width bits a p w w' b b' h k =
        and_from (has_sort_in here (bit_sort width) (BitsOf width a)) (have_sorts_in here (option_sort (bit_sort bits) ∷ []) (alone (carry_prefix bits p))) (width_itself width a (bits_from width a w w' h))
        (and_from (has_sort_in here (option_sort (bit_sort bits)) (carry_prefix bits p)) true (prefix_sorted bits p b b' k) refl)

    extension_sorted : (kind : ExtensionKind) (n : List ℕ) (x : PlainExtension) → IsNamed here n (shown_kind kind) → IsExtension kind x → has_sort_in here (name n) (carry_extension x) ≡ true
    extension_sorted DecimalKind n (DecimalOf z) d h = built_named n (shown_kind DecimalKind) 0 (codes "Decimal") (bit_sort 64 ∷ []) (alone (BitsOf 64 (bits_of 64 z))) d refl (long_sorted z)
    extension_sorted DatetimeKind n (DatetimeOf z) d h = built_named n (shown_kind DatetimeKind) 0 (codes "Datetime") (bit_sort 64 ∷ []) (alone (BitsOf 64 (bits_of 64 z))) d refl (long_sorted z)
    extension_sorted DurationKind n (DurationOf z) d h = built_named n (shown_kind DurationKind) 0 (codes "Duration") (bit_sort 64 ∷ []) (alone (BitsOf 64 (bits_of 64 z))) d refl (long_sorted z)
    extension_sorted IpAddrKind n (Ipv4Of a p) d h =
        built_named n (shown_kind IpAddrKind) 0 (codes "V4") (bit_sort 32 ∷ option_sort (bit_sort 5) ∷ []) (one_script_value (BitsOf 32 a) (alone (carry_prefix 5 p))) d refl
        (address_sorted 32 5 a p (omega arith) (omega arith) (omega arith) (omega arith) h.0 h.1)
    extension_sorted IpAddrKind n (Ipv6Of a p) d h =
        built_named n (shown_kind IpAddrKind) 1 (codes "V6") (bit_sort 128 ∷ option_sort (bit_sort 7) ∷ []) (one_script_value (BitsOf 128 a) (alone (carry_prefix 7 p))) d refl
        (address_sorted 128 7 a p (omega arith) (omega arith) (omega arith) (omega arith) h.0 h.1)
    extension_sorted kind n x d h = absurd h

    module _ (enums : Enums) (s : Tables) (good : AreEnums enums) where
      mutual
        pub sorted_value : (ty : PlainType) (v : Value) → TypeIsDeclared enums s here ty → IsValue enums ty v → has_sort_in here (type_sort s ty) (carry enums s ty v) ≡ true
        sorted_value BoolType (BoolValue b) d h = refl
        sorted_value BoolType v d h = absurd h
        sorted_value (BitVecType n) (BitVecValue m a) d h = subst (λ x. has_sort_in here (bit_sort n) (BitsOf x a) ≡ true) (sym h.0) (width_itself n a (bits_from n a d.0 d.1 h.1))
        sorted_value (BitVecType n) v d h = absurd h
        sorted_value StringType (StringValue t) d h = code_points t h
        sorted_value StringType v d h = absurd h
        sorted_value (EntityType e) (EntityValue f i) d h =
            subst (λ x. has_sort_in here (name (type_name s (EntityType e))) (carry_entity (members_of enums x) (type_name s (EntityType x)) i) ≡ true) (sym h.0)
            (entity_sorted (members_of enums e) (type_name s (EntityType e)) i d h.1)
        sorted_value (EntityType e) v d h = absurd h
        sorted_value (ExtensionType kind) (ExtensionValue x) d h = extension_sorted kind (type_name s (ExtensionType kind)) x d h
        sorted_value (ExtensionType kind) v d h = absurd h
        sorted_value (OptionType t) NoneValue d h = none_sorted (type_sort s t)
        sorted_value (OptionType t) (SomeValue v) d h = some_sorted (type_sort s t) (carry enums s t v) (sorted_value t v d h)
        sorted_value (OptionType t) v d h = absurd h
        sorted_value (RecordType x) (RecordValue fs) d h =
            built_named (type_name s (RecordType x)) ((type_name s (RecordType x), attribute_sorts s x) ∷ []) 0 (type_name s (RecordType x)) (attribute_sorts s x) (carry_fields enums s x fs) d.0 refl (sorted_fields x fs d.1 h)
        sorted_value (RecordType x) v d h = absurd h
        sorted_value (SetType t) (SetValue vs) d h = and_from (all_have_sort_in here (type_sort s t) (carry_values enums s t vs)) (script.ascends (carry_values enums s t vs)) (sorted_each t vs d h.1) (stays_sorted enums s good t vs h.0 h.1)
        sorted_value (SetType t) v d h = absurd h

        sorted_each : (t : PlainType) (vs : Values) → TypeIsDeclared enums s here t → AllByRecursion (λ v. IsValue enums t v) (list_of_values vs) → all_have_sort_in here (type_sort s t) (carry_values enums s t vs) ≡ true
        sorted_each t no_values d h = refl
        sorted_each t (one_value v vs) d h = and_from (has_sort_in here (type_sort s t) (carry enums s t v)) (all_have_sort_in here (type_sort s t) (carry_values enums s t vs)) (sorted_value t v d h.0) (sorted_each t vs d h.1)

        sorted_fields : (x : AttributeTypes) (fs : FieldValues) → AttributesAreDeclared enums s here x → AreFieldValues enums x fs → have_sorts_in here (attribute_sorts s x) (carry_fields enums s x fs) ≡ true
        sorted_fields no_attributes no_field_values d h = refl
        sorted_fields no_attributes fs d h = absurd h
        sorted_fields (attribute a t x) (one_field_value b v fs) d h = and_from (has_sort_in here (type_sort s t) (carry enums s t v)) (have_sorts_in here (attribute_sorts s x) (carry_fields enums s x fs)) (sorted_value t v d.0 h.1) (sorted_fields x fs d.1 h.2)
        sorted_fields (attribute a t x) fs d h = absurd h
