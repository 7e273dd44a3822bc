-- What a Cedar value means at a Cedar type: a value of terms. Every value means something at every type. Of no use, and so
-- false, are a set where the type has no element type, a record where it is no closed record type, an expression that says no
-- value, and an attribute that the type requires and the record lacks.
use Rattle.std.specs.Prelude.{ℕ, Bool, true, false, bytes_eq, List, [], ◌∷◌, map, Option, Some, None}
use Rattle.std.specs.Map.{lookup}
use Rattle.std.specs.Str.{chars}
use Rattle.law_numbers.specs.BitVectors.{bits_of}
use Rattle.law_numbers.specs.Extensions.{PlainExtension}
use Rattle.law_terms.specs.ValueOrder.{set_of}
use Rattle.law_terms.specs.Values.{Value, BoolValue, BitVecValue, StringValue, EntityValue, ExtensionValue, NoneValue, SomeValue}
use Rattle.law_terms.specs.Values.{RecordValue, FieldValues, no_field_values, one_field_value}
use Rattle.smt_values.specs.Cedar.{PlainCedar, SetType, ClosedRecordType, CedarAttributes, no_attributes, attribute}
use Rattle.smt_values.specs.Constructors.{value_of_expression}
use Rattle.smt_values.specs.PlainValues.{CedarLiteral, TruthOf, LongOf, TextOf, EntityOf, PlainValue, LiteralValue, SetValue as CedarSet}
use Rattle.smt_values.specs.PlainValues.{RecordValue as CedarRecord, ExtensionValue as CedarExtension, PlainValues, no_values, one_value}
use Rattle.smt_values.specs.PlainValues.{PlainFields, no_fields, one_field}
use Rattle.law_terms.specs.Interpretations.{unused_value}

-- ---- literals and values of extension types: they mean the same at every type

-- a truth value, the 64 bits of a Long, a text and an entity; a text is the list of the code points that its bytes spell
abbrev pub literal_meaning : CedarLiteral → Value
literal_meaning (TruthOf b) = BoolValue b
literal_meaning (LongOf n) = BitVecValue 64 (bits_of 64 n)
literal_meaning (TextOf text) = StringValue (chars text)
literal_meaning (EntityOf type id) = EntityValue type (chars id)

-- what an expression means: the value of an extension type that it says, and nothing of use where it says none
abbrev pub extension_meaning : Option PlainExtension → Value
extension_meaning (Some x) = ExtensionValue x
extension_meaning None = unused_value

-- what a value means that is neither a set nor a record, at whatever type
abbrev pub meaning_at_any_type : PlainValue → Value
meaning_at_any_type (LiteralValue literal) = literal_meaning literal
meaning_at_any_type (CedarExtension e) = extension_meaning (value_of_expression e)
meaning_at_any_type (CedarSet vs) = unused_value
meaning_at_any_type (CedarRecord held) = unused_value

-- ---- the elements of sets, and the attributes of records

-- the elements of a set, in the order in which they were given
abbrev pub elements_of : PlainValues → List PlainValue
elements_of no_values = []
elements_of (one_value v vs) = v ∷ elements_of vs

-- the attributes of a record with their values, in order
abbrev pub fields_of : PlainFields → List (List ℕ × PlainValue)
fields_of no_fields = []
fields_of (one_field name v others) = (name, v) ∷ fields_of others

-- the value of an attribute, where the record has it
abbrev pub value_named : (name : List ℕ) → PlainFields → Option PlainValue
value_named name held = lookup (bytes_eq name) (fields_of held)

-- What an attribute means: where the type requires it its meaning, and else some of its meaning, or none where the record lacks
-- it. One that is required and lacking is of no use.
abbrev pub attribute_meaning : (meaning_of : PlainValue → Value) → (required : Bool) → Option PlainValue → Value
attribute_meaning meaning_of true (Some v) = meaning_of v
attribute_meaning meaning_of false (Some v) = SomeValue (meaning_of v)
attribute_meaning meaning_of true None = unused_value
attribute_meaning meaning_of false None = NoneValue

-- ---- all values

abbrev mutual
  -- What a value means at a Cedar type, as a value of terms: a set at a set type the set of what its elements mean, a record at a
  -- closed record type the record of the type's attributes, and any other value what it means at every type.
  pub cedar_value : PlainCedar → PlainValue → Value
  cedar_value (SetType element) (CedarSet vs) = set_of (map (cedar_value element) (elements_of vs))
  cedar_value (ClosedRecordType named) (CedarRecord held) = RecordValue (attribute_meanings named held)
  cedar_value type v = meaning_at_any_type v

  -- the attributes of a record type in order, each with what it means in the record of these fields
  pub attribute_meanings : CedarAttributes → PlainFields → FieldValues
  attribute_meanings no_attributes held = no_field_values
  attribute_meanings (attribute name type required others) held =
      one_field_value name (attribute_meaning (cedar_value type) required (value_named name held)) (attribute_meanings others held)
