-- Values of one type stand in the order of what they are carried to.
use Rattle.std.proofs.Common.{◌≡◌, ℕ, suc, ◌-◌, ◌^◌, ◌<◌, true, List, ◌∷◌, map, refl, sym, ap, ◌∙◌, arith}
use Rattle.std.specs.Prelude.{ℤ, pos, negsuc, codes, Option, Some, None, IfSome}
use Rattle.std.specs.Str.{chars}
use Rattle.std.specs.Cmp.{nat_cmp_is, Equal-is, first_so, second_so}
use Rattle.std.specs.FinMap.{nat_cmp-IsAntisymmetric}
use Rattle.std.specs.Option.{option_cmp}
use Rattle.std.specs.Ordering.{nat_cmp, ordering_then, ordering_reverse, is_eq, is_lt}
use Rattle.std.specs.declared.cmp.Ordering.{Ordering}
use Rattle.std.specs.declared.cmp.Ordering.TheVariants.{Less, Equal, Greater}
use Rattle.std.proofs.lemmas.Cmp.{nat_cmp_total}
use Rattle.law_numbers.specs.BitVectors.{bits_of}
use Rattle.law_numbers.proofs.TwosComplement.{bits_of-pos, bits_of-negsuc}
use Rattle.law_terms.specs.Plain.{ExtensionKind, IpAddrKind, DecimalKind, DatetimeKind, DurationKind, PlainType, OptionType, BitVecType, BoolType, EntityType, ExtensionType, StringType, RecordType, SetType, AttributeTypes, no_attributes, attribute, PlainExtension, DecimalOf, Ipv4Of, Ipv6Of, DatetimeOf, DurationOf}
use Rattle.law_terms.specs.Values.{Value, BoolValue, BitVecValue, StringValue, EntityValue, ExtensionValue, NoneValue, SomeValue, RecordValue, SetValue, Values, no_values, one_value, FieldValues, no_field_values, one_field_value}
use Rattle.law_scripts.specs.ScriptValues.{ScriptValue, BitsOf, TextOf, ConstructorOf, ScriptValues, no_script_values, one_script_value}
use Rattle.law_terms.specs.TypeValues.{IsValue, AreFieldValues, IsExtension, IsId, IsLong, Enums, members_of, AreEnums, AreAscending}
use Rattle.law_terms.specs.ValueOrder.{text_cmp, twos_complement_cmp, extension_cmp, value_cmp, values_cmp, field_values_cmp, list_of_values, value_eq, ascends}
use Rattle.std.specs.List.{AllByRecursion}
use Rattle.law_terms.proofs.ValueOrder.{text_itself, value_same}
use Rattle.std.proofs.lemmas.Bool.{and_from}
use Rattle.law_scripts.specs.ScriptOrder as script
use Rattle.law_scripts.proofs.Ranks.{same_is_equal}
use Rattle.law_scripts.specs.ScriptOrder.{order, order_each, same}
use Rattle.law_lines.specs.EntryNames.{place_of, member_name}
use Rattle.law_lines.specs.NameTables.{Tables}
use Rattle.law_lines.specs.Naming.{type_name}
use Rattle.law_theorem.specs.Carry.{alone, carry_prefix, carry_extension, carry_entity, carry, carry_values, carry_fields}
use Rattle.law_theorem.proofs.Orderings.{then_none, nat_less}
use Rattle.law_theorem.proofs.Members.{members_found, ascends_chars, any_chars, places_ordered}

-- ---- small steps

number_itself : (n : ℕ) → nat_cmp n n ≡ Equal
number_itself n = sym (nat_cmp_is n n Equal refl)

-- one constructor of two values
constructor_order : (place : ℕ) (n : List ℕ) (xs ys : ScriptValues) → order (ConstructorOf place n xs) (ConstructorOf place n ys) ≡ order_each xs ys
constructor_order place n xs ys = ap (λ o. ordering_then o (ordering_then (text_cmp n n) (order_each xs ys))) (number_itself place) ∙ ap (λ o. ordering_then o (order_each xs ys)) (text_itself n)

-- ---- signed numbers

signed_order : (x y : ℤ) → IsLong x → IsLong y → order (BitsOf 64 (bits_of 64 x)) (BitsOf 64 (bits_of 64 y)) ≡ twos_complement_cmp x y
signed_order (pos a) (pos b) h k =
    let p = bits_of-pos 64 a (omega arith) in
    let q = bits_of-pos 64 b (omega arith) in
    λ i. nat_cmp (p i) (q i)
signed_order (pos a) (negsuc b) h k =
    let p = bits_of-pos 64 a (omega arith) in
    let q = bits_of-negsuc 64 b (omega arith) in
    (λ i. nat_cmp (p i) (q i)) ∙ sym (nat_cmp_is a (2 ^ 64 - suc b) Less (omega arith))
signed_order (negsuc a) (pos b) h k =
    let p = bits_of-negsuc 64 a (omega arith) in
    let q = bits_of-pos 64 b (omega arith) in
    (λ i. nat_cmp (p i) (q i)) ∙ sym (nat_cmp_is (2 ^ 64 - suc a) b Greater (omega arith))
signed_order (negsuc a) (negsuc b) h k =
    let p = bits_of-negsuc 64 a (omega arith) in
    let q = bits_of-negsuc 64 b (omega arith) in
    (λ i. nat_cmp (p i) (q i)) ∙ by (nat_cmp b a) refl
  where
    by : (o : Ordering) → nat_cmp b a ≡ o → nat_cmp (2 ^ 64 - suc a) (2 ^ 64 - suc b) ≡ o
    by Less e = let l : b < a = nat_less b a e in sym (nat_cmp_is (2 ^ 64 - suc a) (2 ^ 64 - suc b) Less (omega arith))
    by Equal e = let l : b ≡ a = nat_cmp-IsAntisymmetric b a e in sym (nat_cmp_is (2 ^ 64 - suc a) (2 ^ 64 - suc b) Equal (omega arith))
    by Greater e = let l : a < b = nat_less a b (nat_cmp_total.antisymm a b ∙ ap ordering_reverse e) in sym (nat_cmp_is (2 ^ 64 - suc a) (2 ^ 64 - suc b) Greater (omega arith))

-- ---- extension values

prefix_order : (width : ℕ) (p q : Option ℕ) → order (carry_prefix width p) (carry_prefix width q) ≡ option_cmp nat_cmp p q
prefix_order width None None = refl
prefix_order width None (Some b) = refl
prefix_order width (Some a) None = refl
prefix_order width (Some a) (Some b) = constructor_order 1 (codes "some") (alone (BitsOf width a)) (alone (BitsOf width b)) ∙ (then_none (order (BitsOf width a) (BitsOf width b)) ∙ ap (λ o. ordering_then o (nat_cmp a b)) (number_itself width))

address_order : (place width bits : ℕ) (n : List ℕ) (a b : ℕ) (p q : Option ℕ)
    → order (ConstructorOf place n (one_script_value (BitsOf width a) (one_script_value (carry_prefix bits p) no_script_values))) (ConstructorOf place n (one_script_value (BitsOf width b) (one_script_value (carry_prefix bits q) no_script_values)))
    ≡ ordering_then (nat_cmp a b) (option_cmp nat_cmp p q)
address_order place width bits n a b p q =
    constructor_order place n (one_script_value (BitsOf width a) (alone (carry_prefix bits p))) (one_script_value (BitsOf width b) (alone (carry_prefix bits q)))
    ∙ λ i. ordering_then (ordering_then (number_itself width i) (nat_cmp a b)) (last i)
  where
    last : order_each (alone (carry_prefix bits p)) (alone (carry_prefix bits q)) ≡ option_cmp nat_cmp p q
    last = then_none (order (carry_prefix bits p) (carry_prefix bits q)) ∙ prefix_order bits p q

alone_order : (n : List ℕ) (v w : ScriptValue) (o : Ordering) → order v w ≡ o → order (ConstructorOf 0 n (one_script_value v no_script_values)) (ConstructorOf 0 n (one_script_value w no_script_values)) ≡ o
alone_order n v w o h = constructor_order 0 n (alone v) (alone w) ∙ (then_none (order v w) ∙ h)

extension_order : (k : ExtensionKind) (x y : PlainExtension) → IsExtension k x → IsExtension k y → order (carry_extension x) (carry_extension y) ≡ extension_cmp x y
extension_order DecimalKind (DecimalOf x) (DecimalOf y) h k = alone_order (codes "Decimal") (BitsOf 64 (bits_of 64 x)) (BitsOf 64 (bits_of 64 y)) (twos_complement_cmp x y) (signed_order x y h k)
extension_order DecimalKind (DecimalOf x) y h k = absurd k
extension_order DecimalKind x y h k = absurd h
extension_order DatetimeKind (DatetimeOf x) (DatetimeOf y) h k = alone_order (codes "Datetime") (BitsOf 64 (bits_of 64 x)) (BitsOf 64 (bits_of 64 y)) (twos_complement_cmp x y) (signed_order x y h k)
extension_order DatetimeKind (DatetimeOf x) y h k = absurd k
extension_order DatetimeKind x y h k = absurd h
extension_order DurationKind (DurationOf x) (DurationOf y) h k = alone_order (codes "Duration") (BitsOf 64 (bits_of 64 x)) (BitsOf 64 (bits_of 64 y)) (twos_complement_cmp x y) (signed_order x y h k)
extension_order DurationKind (DurationOf x) y h k = absurd k
extension_order DurationKind x y h k = absurd h
extension_order IpAddrKind (Ipv4Of a p) (Ipv4Of b q) h k = address_order 0 32 5 (codes "V4") a b p q
extension_order IpAddrKind (Ipv4Of a p) (Ipv6Of b q) h k = refl
extension_order IpAddrKind (Ipv4Of a p) y h k = absurd k
extension_order IpAddrKind (Ipv6Of a p) (Ipv4Of b q) h k = refl
extension_order IpAddrKind (Ipv6Of a p) (Ipv6Of b q) h k = address_order 1 128 7 (codes "V6") a b p q
extension_order IpAddrKind (Ipv6Of a p) y h k = absurd k
extension_order IpAddrKind x y h k = absurd h

-- ---- entities

-- constructors whose names come from their places
places_decide : (f : ℕ → List ℕ) (p q : ℕ) (o : Ordering) → nat_cmp p q ≡ o → order (ConstructorOf p (f p) no_script_values) (ConstructorOf q (f q) no_script_values) ≡ o
places_decide f p q Less h = ap (λ o. ordering_then o (ordering_then (text_cmp (f p) (f q)) Equal)) h
places_decide f p q Greater h = ap (λ o. ordering_then o (ordering_then (text_cmp (f p) (f q)) Equal)) h
places_decide f p q Equal h =
    ap (λ o. ordering_then o (ordering_then (text_cmp (f p) (f q)) Equal)) h
    ∙ (then_none (text_cmp (f p) (f q)) ∙ (ap (λ x. text_cmp (f p) (f x)) (sym (nat_cmp-IsAntisymmetric p q h)) ∙ text_itself (f p)))

id_order : (members : Option (List (List ℕ))) (sort i j : List ℕ) → IfSome members AreAscending → IsId members i → IsId members j → order (carry_entity members sort i) (carry_entity members sort j) ≡ text_cmp i j
id_order None sort i j m h k = alone_order sort (TextOf i) (TextOf j) (text_cmp i j) refl
id_order (Some members) sort i j m h k =
    places_decide (member_name sort) (place_of i (map chars members)) (place_of j (map chars members)) (text_cmp i j)
    (places_ordered (map chars members) (ascends_chars members m.texts m.ascending) i j (any_chars i members h) (any_chars j members k))

module _ (enums : Enums) (s : Tables) (good : AreEnums enums) where
  entity_order : (e f g i j : List ℕ) → f ≡ e → g ≡ e → IsId (members_of enums e) i → IsId (members_of enums e) j
      → order (carry enums s (EntityType e) (EntityValue f i)) (carry enums s (EntityType e) (EntityValue g j)) ≡ value_cmp (EntityValue f i) (EntityValue g j)
  entity_order e f g i j p q h k =
      let here : order (carry enums s (EntityType e) (EntityValue e i)) (carry enums s (EntityType e) (EntityValue e j)) ≡ text_cmp i j =
      id_order (members_of enums e) (type_name s (EntityType e)) i j (members_found enums e good) h k in
      (λ x. order (carry enums s (EntityType e) (EntityValue (p x) i)) (carry enums s (EntityType e) (EntityValue (q x) j)))
      ∙ (here ∙ (sym (ap (λ o. ordering_then o (text_cmp i j)) (text_itself e)) ∙ λ x. ordering_then (text_cmp (sym p x) (sym q x)) (text_cmp i j)))

  mutual
    pub keeps : (ty : PlainType) (v w : Value) → IsValue enums ty v → IsValue enums ty w → order (carry enums s ty v) (carry enums s ty w) ≡ value_cmp v w
    keeps BoolType (BoolValue a) (BoolValue b) h k = refl
    keeps BoolType (BoolValue a) w h k = absurd k
    keeps BoolType v w h k = absurd h
    keeps (BitVecType n) (BitVecValue l a) (BitVecValue m b) h k = refl
    keeps (BitVecType n) (BitVecValue l a) w h k = absurd k
    keeps (BitVecType n) v w h k = absurd h
    keeps StringType (StringValue a) (StringValue b) h k = refl
    keeps StringType (StringValue a) w h k = absurd k
    keeps StringType v w h k = absurd h
    keeps (EntityType e) (EntityValue f i) (EntityValue g j) h k = entity_order e f g i j h.0 k.0 h.1 k.1
    keeps (EntityType e) (EntityValue f i) w h k = absurd k
    keeps (EntityType e) v w h k = absurd h
    keeps (ExtensionType kind) (ExtensionValue x) (ExtensionValue y) h k = extension_order kind x y h k
    keeps (ExtensionType kind) (ExtensionValue x) w h k = absurd k
    keeps (ExtensionType kind) v w h k = absurd h
    keeps (OptionType t) NoneValue NoneValue h k = refl
    keeps (OptionType t) NoneValue (SomeValue w) h k = refl
    keeps (OptionType t) NoneValue w h k = absurd k
    keeps (OptionType t) (SomeValue v) NoneValue h k = refl
    keeps (OptionType t) (SomeValue v) (SomeValue w) h k = constructor_order 1 (codes "some") (alone (carry enums s t v)) (alone (carry enums s t w)) ∙ (then_none (order (carry enums s t v) (carry enums s t w)) ∙ keeps t v w h k)
    keeps (OptionType t) (SomeValue v) w h k = absurd k
    keeps (OptionType t) v w h k = absurd h
    keeps (RecordType x) (RecordValue fs) (RecordValue gs) h k = constructor_order 0 (type_name s (RecordType x)) (carry_fields enums s x fs) (carry_fields enums s x gs) ∙ keeps_fields x fs gs h k
    keeps (RecordType x) (RecordValue fs) w h k = absurd k
    keeps (RecordType x) v w h k = absurd h
    keeps (SetType t) (SetValue vs) (SetValue ws) h k = keeps_each t vs ws h.1 k.1
    keeps (SetType t) (SetValue vs) w h k = absurd k
    keeps (SetType t) v w h k = absurd h

    pub keeps_each : (t : PlainType) (vs ws : Values) → AllByRecursion (λ v. IsValue enums t v) (list_of_values vs) → AllByRecursion (λ v. IsValue enums t v) (list_of_values ws)
        → order_each (carry_values enums s t vs) (carry_values enums s t ws) ≡ values_cmp vs ws
    keeps_each t no_values no_values h k = refl
    keeps_each t no_values (one_value w ws) h k = refl
    keeps_each t (one_value v vs) no_values h k = refl
    keeps_each t (one_value v vs) (one_value w ws) h k = λ i. ordering_then (keeps t v w h.0 k.0 i) (keeps_each t vs ws h.1 k.1 i)

    pub keeps_fields : (x : AttributeTypes) (fs gs : FieldValues) → AreFieldValues enums x fs → AreFieldValues enums x gs
        → order_each (carry_fields enums s x fs) (carry_fields enums s x gs) ≡ field_values_cmp fs gs
    keeps_fields no_attributes no_field_values no_field_values h k = refl
    keeps_fields no_attributes no_field_values gs h k = absurd k
    keeps_fields no_attributes fs gs h k = absurd h
    keeps_fields (attribute a t x) (one_field_value b v fs) (one_field_value c w gs) h k =
        let same_name : Equal ≡ text_cmp b c = sym (text_itself a) ∙ λ i. text_cmp (sym h.0 i) (sym k.0 i) in
        λ i. ordering_then (ordering_then (same_name i) (keeps t v w h.1 k.1 i)) (keeps_fields x fs gs h.2 k.2 i)
    keeps_fields (attribute a t x) (one_field_value b v fs) gs h k = absurd k
    keeps_fields (attribute a t x) fs gs h k = absurd h

  pub same_values : (ty : PlainType) (v w : Value) → IsValue enums ty v → IsValue enums ty w → same (carry enums s ty v) (carry enums s ty w) ≡ value_eq v w
  same_values ty v w h k = ap is_eq (keeps ty v w h k)

  pub one_to_one : (ty : PlainType) (v w : Value) → IsValue enums ty v → IsValue enums ty w
      → (carry enums s ty v ≡ carry enums s ty w → v ≡ w) × (same (carry enums s ty v) (carry enums s ty w) ≡ value_eq v w)
  one_to_one ty v w h k = (
    λ e. value_same v w ((Equal-is (value_cmp v w)).0 (sym (same_values ty v w h k) ∙ (ap (λ x. same (carry enums s ty v) x) (sym e) ∙ (same_is_equal (carry enums s ty v) (carry enums s ty v)).1))),
    same_values ty v w h k,
  )

  pub stays_sorted : (t : PlainType) (vs : Values) → ascends value_cmp (list_of_values vs) ≡ true → AllByRecursion (λ v. IsValue enums t v) (list_of_values vs) → script.ascends (carry_values enums s t vs) ≡ true
  stays_sorted t no_values h k = refl
  stays_sorted t (one_value v vs) h k = from t v vs k.0 k.1 h
    where
      from : (t : PlainType) (v : Value) (vs : Values) → IsValue enums t v → AllByRecursion (λ x. IsValue enums t x) (list_of_values vs) → ascends value_cmp (v ∷ list_of_values vs) ≡ true
          → script.ascends_from (carry enums s t v) (carry_values enums s t vs) ≡ true
      from t v no_values p k h = refl
      from t v (one_value w ws) p k h =
          and_from (is_lt (order (carry enums s t v) (carry enums s t w))) (script.ascends_from (carry enums s t w) (carry_values enums s t ws))
          (ap is_lt (keeps t v w p k.0) ∙ first_so (is_lt (value_cmp v w)) (ascends value_cmp (w ∷ list_of_values ws)) h)
          (from t w ws k.0 k.1 (second_so (is_lt (value_cmp v w)) (ascends value_cmp (w ∷ list_of_values ws)) h))
