-- Values of terms carried to values of a script, and back.
use Rattle.std.specs.Prelude.{ℕ, zero, suc, pos, false, if◌then◌else◌, bytes_eq, codes, chars, map, List, [], ◌∷◌, Option, Some, None}
use Rattle.law_numbers.specs.BitVectors.{bits_of, signed}
use Rattle.law_terms.specs.Plain.{ExtensionKind, IpAddrKind, DecimalKind, DatetimeKind, DurationKind, PlainType, OptionType, BitVecType}
use Rattle.law_terms.specs.Plain.{BoolType, EntityType, ExtensionType, StringType, RecordType, SetType, AttributeTypes, attribute}
use Rattle.law_terms.specs.Plain.{PlainExtension, DecimalOf, Ipv4Of, Ipv6Of, DatetimeOf, DurationOf}
use Rattle.law_terms.specs.Values.{Value, BoolValue, BitVecValue, StringValue, EntityValue, ExtensionValue, NoneValue, SomeValue}
use Rattle.law_terms.specs.Values.{RecordValue, SetValue, Values, no_values, one_value, FieldValues, no_field_values, one_field_value}
use Rattle.law_terms.specs.TypeValues.{Enums, members_of}
use Rattle.law_scripts.specs.ScriptValues.{ScriptValue, TruthOf, BitsOf, TextOf, ConstructorOf, SetOf, ScriptValues, no_script_values}
use Rattle.law_scripts.specs.ScriptValues.{one_script_value}
use Rattle.law_lines.specs.EntryNames.{place_of, kind_name, v4_name, v6_name, enum_member}
use Rattle.law_lines.specs.NameTables.{Tables}
use Rattle.law_lines.specs.Naming.{type_name}

-- the key of an entry with this name
abbrev pub key_of : {K : Type 0} → List (K × List ℕ) → List ℕ → Option K
key_of [] n = None
key_of (e ∷ es) n = if bytes_eq e.1 n then Some e.0 else key_of es n

-- ---- values

-- what stands for a value that is none of its type
abbrev pub nothing_carried : ScriptValue
nothing_carried = TruthOf false

-- what stands for a value of a script that is none of the type's sort
abbrev pub nothing_back : Value
nothing_back = BoolValue false

-- one value as the arguments of a constructor
abbrev pub alone : ScriptValue → ScriptValues
alone v = one_script_value v no_script_values

-- `none` of the datatype `Option`
abbrev pub none_carried : ScriptValue
none_carried = ConstructorOf 0 (codes "none") no_script_values

-- `some` of the datatype `Option`, at a value
abbrev pub some_carried : ScriptValue → ScriptValue
some_carried v = ConstructorOf 1 (codes "some") (alone v)

-- the prefix of an IP range as an option of bits; no prefix is `none`
abbrev pub carry_prefix : (width : ℕ) → Option ℕ → ScriptValue
carry_prefix width None = none_carried
carry_prefix width (Some p) = some_carried (BitsOf width p)

-- an extension value: its constructor at its 64 bits, or at the bits of its address and its prefix
abbrev pub carry_extension : PlainExtension → ScriptValue
carry_extension (DecimalOf x) = ConstructorOf 0 (kind_name DecimalKind) (alone (BitsOf 64 (bits_of 64 x)))
carry_extension (Ipv4Of a p) = ConstructorOf 0 v4_name (one_script_value (BitsOf 32 a) (alone (carry_prefix 5 p)))
carry_extension (Ipv6Of a p) = ConstructorOf 1 v6_name (one_script_value (BitsOf 128 a) (alone (carry_prefix 7 p)))
carry_extension (DatetimeOf x) = ConstructorOf 0 (kind_name DatetimeKind) (alone (BitsOf 64 (bits_of 64 x)))
carry_extension (DurationOf x) = ConstructorOf 0 (kind_name DurationKind) (alone (BitsOf 64 (bits_of 64 x)))

-- an entity, whose id is a list of characters
abbrev pub carry_entity : (members : Option (List (List ℕ))) → (sort id : List ℕ) → ScriptValue
carry_entity None sort id = ConstructorOf 0 sort (alone (TextOf id))
carry_entity (Some members) sort id =
    ConstructorOf (place_of id (map chars members)) (enum_member (map chars members) sort id) no_script_values

abbrev mutual
  -- A value of a type as one of the script: Booleans, bits and strings stay, and sets go element by element. An option, an entity, an
  -- extension value and a record become constructors at what they hold, and a member of an enum type the constructor of its place.
  pub carry : Enums → Tables → PlainType → Value → ScriptValue
  carry enums s BoolType (BoolValue b) = TruthOf b
  carry enums s (BitVecType n) (BitVecValue width number) = BitsOf width number
  carry enums s StringType (StringValue text) = TextOf text
  carry enums s (EntityType t) (EntityValue type id) = carry_entity (members_of enums type) (type_name s (EntityType type)) id
  carry enums s (ExtensionType kind) (ExtensionValue x) = carry_extension x
  carry enums s (OptionType t) NoneValue = none_carried
  carry enums s (OptionType t) (SomeValue v) = some_carried (carry enums s t v)
  carry enums s (RecordType attributes) (RecordValue fields) =
      ConstructorOf 0 (type_name s (RecordType attributes)) (carry_fields enums s attributes fields)
  carry enums s (SetType t) (SetValue vs) = SetOf (carry_values enums s t vs)
  carry enums s t v = nothing_carried

  -- the elements of a set, each carried
  pub carry_values : Enums → Tables → PlainType → Values → ScriptValues
  carry_values enums s t no_values = no_script_values
  carry_values enums s t (one_value v vs) = one_script_value (carry enums s t v) (carry_values enums s t vs)

  -- the values of a record's attributes in order, each carried by its attribute's type
  pub carry_fields : Enums → Tables → AttributeTypes → FieldValues → ScriptValues
  carry_fields enums s (attribute a t attributes) (one_field_value b v fields) =
      one_script_value (carry enums s t v) (carry_fields enums s attributes fields)
  carry_fields enums s x fields = no_script_values

-- ---- the way back

-- the prefix that an option of bits holds, if it holds one
abbrev pub back_prefix : ScriptValue → Option ℕ
back_prefix (ConstructorOf place n (one_script_value (BitsOf width number) vs)) = Some number
back_prefix v = None

-- an IP range by the place of its constructor: at place 0 IPv4, and else IPv6
abbrev pub back_address : (place address : ℕ) → Option ℕ → PlainExtension
back_address zero a p = Ipv4Of a p
back_address (suc place) a p = Ipv6Of a p

-- an extension value, by its kind and what its constructor holds
abbrev pub back_extension : ExtensionKind → (place : ℕ) → ScriptValues → PlainExtension
back_extension IpAddrKind place (one_script_value (BitsOf width a) (one_script_value v vs)) = back_address place a (back_prefix v)
back_extension DecimalKind place (one_script_value (BitsOf width n) vs) = DecimalOf (signed 64 n)
back_extension DatetimeKind place (one_script_value (BitsOf width n) vs) = DatetimeOf (signed 64 n)
back_extension DurationKind place (one_script_value (BitsOf width n) vs) = DurationOf (signed 64 n)
back_extension kind place vs = DecimalOf (pos 0)

-- the text at a place
abbrev pub text_at : List (List ℕ) → ℕ → List ℕ
text_at [] place = []
text_at (x ∷ xs) zero = x
text_at (x ∷ xs) (suc place) = text_at xs place

-- the text that a constructor holds first
abbrev pub first_text : ScriptValues → List ℕ
first_text (one_script_value (TextOf text) vs) = text
first_text vs = []

-- an entity: the member at the constructor's place, or else the id that the constructor holds
abbrev pub back_entity : (members : Option (List (List ℕ))) → (type : List ℕ) → (place : ℕ) → ScriptValues → Value
back_entity None type place vs = EntityValue type (first_text vs)
back_entity (Some members) type place vs = EntityValue type (chars (text_at members place))

abbrev mutual
  -- A value of the script as one of the type, the other way of `carry`: by the script's value, along the type.
  pub back : Enums → PlainType → ScriptValue → Value
  back enums BoolType (TruthOf b) = BoolValue b
  back enums (BitVecType n) (BitsOf width number) = BitVecValue width number
  back enums StringType (TextOf text) = StringValue text
  back enums (EntityType type) (ConstructorOf place n vs) = back_entity (members_of enums type) type place vs
  back enums (ExtensionType kind) (ConstructorOf place n vs) = ExtensionValue (back_extension kind place vs)
  back enums (OptionType t) (ConstructorOf place n vs) = back_option enums t vs
  back enums (RecordType attributes) (ConstructorOf place n vs) = RecordValue (back_fields enums attributes vs)
  back enums (SetType t) (SetOf vs) = SetValue (back_values enums t vs)
  back enums t v = nothing_back

  -- none where the constructor holds nothing, and else some of what it holds
  pub back_option : Enums → PlainType → ScriptValues → Value
  back_option enums t no_script_values = NoneValue
  back_option enums t (one_script_value v vs) = SomeValue (back enums t v)

  -- the elements of a set, each taken back
  pub back_values : Enums → PlainType → ScriptValues → Values
  back_values enums t no_script_values = no_values
  back_values enums t (one_script_value v vs) = one_value (back enums t v) (back_values enums t vs)

  -- the values of a record in order, each taken back along its attribute's type
  pub back_fields : Enums → AttributeTypes → ScriptValues → FieldValues
  back_fields enums (attribute a t attributes) (one_script_value v vs) =
      one_field_value a (back enums t v) (back_fields enums attributes vs)
  back_fields enums x vs = no_field_values
