-- A small interpretation, and terms for worked examples.
use Rattle.std.specs.Prelude.{ℕ, bytes_eq, codes, pos, true, false, List, [], ◌∷◌, None, Some, unwrap_or}
use Rattle.std.specs.Map.{lookup}
use Rattle.law_terms.specs.Interpretations.{empty_table, unused_value}
use Rattle.law_terms.specs.Plain.{AttributeTypes, attribute, no_attributes, BitVecType, BoolType, EntityType, DatetimeKind, ExtensionType}
use Rattle.law_terms.specs.Plain.{IpAddrKind, OptionType, RecordType, SetType, StringType, PlainFunction, DatetimeOf, Ipv4Of, Ipv6Of}
use Rattle.law_terms.specs.Plain.{PlainTerm, VariableTerm}
use Rattle.law_terms.specs.Tables.{Interpretation}
use Rattle.law_terms.specs.ValueOrder.{set_of}
use Rattle.law_terms.specs.Values.{Value, BoolValue, BitVecValue, StringValue, EntityValue, ExtensionValue, NoneValue, SomeValue}
use Rattle.law_terms.specs.Values.{RecordValue, one_field_value, no_field_values}

-- two bits
abbrev pub two_bits : ℕ → Value
two_bits k = BitVecValue 2 k

-- the values of the variables: Booleans p and q, two bits x, y and z, sets s and t of them, options, a record, an entity, a string and
-- values of extension types
abbrev pub small_values : List (List ℕ × Value)
small_values =
    (codes "p", BoolValue true) ∷
    (codes "q", BoolValue false) ∷
    (codes "x", two_bits 3) ∷
    (codes "y", two_bits 2) ∷
    (codes "z", two_bits 3) ∷
    (codes "s", set_of (two_bits 2 ∷ two_bits 3 ∷ [])) ∷
    (codes "t", set_of (two_bits 2 ∷ [])) ∷
    (codes "full", SomeValue (two_bits 3)) ∷
    (codes "empty", NoneValue) ∷
    (codes "record", RecordValue (one_field_value (codes "a") (two_bits 3) no_field_values)) ∷
    (codes "entity", EntityValue (codes "E") (codes "b")) ∷
    (codes "string", StringValue (codes "ab")) ∷
    (codes "datetime", ExtensionValue (DatetimeOf (pos 5))) ∷
    (codes "four", ExtensionValue (Ipv4Of 7 None)) ∷
    (codes "six", ExtensionValue (Ipv6Of 7 (Some 64))) ∷ []

-- an interpretation with these values, in which each function is true of three in two bits alone, and `option.get` of none is 0
abbrev pub small : Interpretation
small = record {
  variable = λ id t. unwrap_or (lookup (bytes_eq id) small_values) unused_value;
  function = λ f. record { entries = (two_bits 3, BoolValue true) ∷ []; elsewhere = BoolValue false };
  inside_none = λ t. two_bits 0;
  other_family = λ o. empty_table;
}

-- a Boolean variable that is true
abbrev pub p : PlainTerm
p = VariableTerm (codes "p") BoolType

-- a Boolean variable that is false
abbrev pub q : PlainTerm
q = VariableTerm (codes "q") BoolType

-- a variable of two bits, which is 3
abbrev pub x : PlainTerm
x = VariableTerm (codes "x") (BitVecType 2)

-- one that is 2
abbrev pub y : PlainTerm
y = VariableTerm (codes "y") (BitVecType 2)

-- another that is 3
abbrev pub z : PlainTerm
z = VariableTerm (codes "z") (BitVecType 2)

-- the set of 2 and 3
abbrev pub s : PlainTerm
s = VariableTerm (codes "s") (SetType (BitVecType 2))

-- the set of 2
abbrev pub t : PlainTerm
t = VariableTerm (codes "t") (SetType (BitVecType 2))

-- an option that holds 3
abbrev pub full : PlainTerm
full = VariableTerm (codes "full") (OptionType (BitVecType 2))

-- an option that holds nothing
abbrev pub empty : PlainTerm
empty = VariableTerm (codes "empty") (OptionType (BitVecType 2))

-- the attributes of a record with one attribute
abbrev pub one_attribute : AttributeTypes
one_attribute = attribute (codes "a") (BitVecType 2) no_attributes

-- a record with 3 as its attribute
abbrev pub a_record : PlainTerm
a_record = VariableTerm (codes "record") (RecordType one_attribute)

-- the entity "b"
abbrev pub an_entity : PlainTerm
an_entity = VariableTerm (codes "entity") (EntityType (codes "E"))

-- the string "ab"
abbrev pub a_string : PlainTerm
a_string = VariableTerm (codes "string") StringType

-- a datetime
abbrev pub a_datetime : PlainTerm
a_datetime = VariableTerm (codes "datetime") (ExtensionType DatetimeKind)

-- an IP range of IPv4
abbrev pub a_range : PlainTerm
a_range = VariableTerm (codes "four") (ExtensionType IpAddrKind)

-- one of IPv6
abbrev pub other_range : PlainTerm
other_range = VariableTerm (codes "six") (ExtensionType IpAddrKind)

-- a function from two bits to Bool
abbrev pub a_function : PlainFunction
a_function = record { id = codes "f"; argument = BitVecType 2; output = BoolType }
