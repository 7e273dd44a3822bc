-- The values of a type.
use Rattle.std.specs.Prelude.{◌≡◌, ℕ, bytes_eq, ◌^◌, ◌<◌, ◌≤◌, List, Option, Some, None, IfSome, IsTrue, IsUtf8, ⊤}
use Rattle.std.specs.List.{AllByRecursion, list_any}
use Rattle.std.specs.Map.{lookup}
use Rattle.std.specs.Str.{chars}
pub use Rattle.law_numbers.specs.Longs.{IsLong}
pub use Rattle.law_texts.specs.Characters.{greatest_code_point, is_code_point}
use Rattle.law_terms.specs.ValueOrder.{text_cmp, value_cmp, ascends, list_of_values}
use Rattle.law_terms.specs.Plain.{ExtensionKind, IpAddrKind, DecimalKind, DatetimeKind, DurationKind, PlainType, OptionType, BitVecType}
use Rattle.law_terms.specs.Plain.{BoolType, EntityType, ExtensionType, StringType, RecordType, SetType, AttributeTypes, no_attributes}
use Rattle.law_terms.specs.Plain.{attribute, PlainExtension, DecimalOf, Ipv4Of, Ipv6Of, DatetimeOf, DurationOf}
use Rattle.law_terms.specs.Values.{Value, BoolValue, BitVecValue, StringValue, EntityValue, ExtensionValue, NoneValue, SomeValue}
use Rattle.law_terms.specs.Values.{RecordValue, SetValue, FieldValues, no_field_values, one_field_value}

-- the enum types with their members, texts in ascending order
abbrev pub Enums : Type 0
Enums = List (List ℕ × List (List ℕ))

-- texts in UTF-8 that ascend strictly by their bytes
pub record AreAscending (ts : List (List ℕ)) : Type 0 where
  pub ascending : IsTrue (ascends text_cmp ts)
  pub texts : AllByRecursion IsUtf8 ts

-- In each enum type the members ascend strictly by their bytes, and are texts. The theorem asks it of the enum types.
abbrev pub AreEnums : Enums → Type 0
AreEnums enums = AllByRecursion (λ e. AreAscending e.1) enums

-- the members of a type, or none where it is no enum type
abbrev pub members_of : Enums → List ℕ → Option (List (List ℕ))
members_of enums e = lookup (bytes_eq e) enums

-- characters of strings: the code points 0 to 196607, surrogates among them (theory UnicodeStrings)
abbrev pub AreCodePoints : List ℕ → Type 0
AreCodePoints s = AllByRecursion (λ c. c ≤ greatest_code_point) s

-- an id of an entity: one of an enum type's members, or code points
abbrev pub IsId : Option (List (List ℕ)) → List ℕ → Type 0
IsId None i = AreCodePoints i
IsId (Some members) i = IsTrue (list_any (λ m. bytes_eq (chars m) i) members)

-- the prefix of an address of 2 to the n bits, where it has one: a number of bits below 2 to the n
abbrev pub IsPrefix : ℕ → Option ℕ → Type 0
IsPrefix n p = IfSome p (λ k. k < 2 ^ n)

-- A value of an extension type: a decimal, datetime or duration of 64 bits with sign; an IPv4 address of 32 bits or an IPv6 address
-- of 128 bits, perhaps with a prefix of 5 or 7 bits. No prefix is the whole address.
abbrev pub IsExtension : ExtensionKind → PlainExtension → Type 0
IsExtension DecimalKind (DecimalOf z) = IsLong z
IsExtension DatetimeKind (DatetimeOf z) = IsLong z
IsExtension DurationKind (DurationOf z) = IsLong z
IsExtension IpAddrKind (Ipv4Of a p) = (a < 2 ^ 32) × IsPrefix 5 p
IsExtension IpAddrKind (Ipv6Of a p) = (a < 2 ^ 128) × IsPrefix 7 p
IsExtension k x = ⊥

abbrev mutual
  -- A value of a type (theories Core, FixedSizeBitVectors and UnicodeStrings, and cvc5's finite sets): a number below 2 to the width;
  -- a string of code points; an entity of the type, of an enum type a member; a record with exactly the attributes of the type; a set
  -- whose elements are of the element type and ascend strictly.
  pub IsValue : Enums → PlainType → Value → Type 0
  IsValue enums BoolType (BoolValue b) = ⊤
  IsValue enums (BitVecType n) (BitVecValue m a) = (m ≡ n) × (a < 2 ^ n)
  IsValue enums StringType (StringValue s) = AreCodePoints s
  IsValue enums (EntityType e) (EntityValue f i) = (f ≡ e) × IsId (members_of enums e) i
  IsValue enums (ExtensionType k) (ExtensionValue x) = IsExtension k x
  IsValue enums (OptionType t) NoneValue = ⊤
  IsValue enums (OptionType t) (SomeValue v) = IsValue enums t v
  IsValue enums (RecordType x) (RecordValue fs) = AreFieldValues enums x fs
  IsValue enums (SetType t) (SetValue vs) =
      IsTrue (ascends value_cmp (list_of_values vs)) × AllByRecursion (λ v. IsValue enums t v) (list_of_values vs)
  IsValue enums t v = ⊥

  -- the attributes are the type's, in its order
  pub AreFieldValues : Enums → AttributeTypes → FieldValues → Type 0
  AreFieldValues enums no_attributes no_field_values = ⊤
  AreFieldValues enums (attribute a t x) (one_field_value b v fs) = (b ≡ a) × IsValue enums t v × AreFieldValues enums x fs
  AreFieldValues enums x fs = ⊥
