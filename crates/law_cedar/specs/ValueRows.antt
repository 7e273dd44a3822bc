-- Values at types: what each means, and whether it is of the type.
use Rattle.std.specs.Prelude.{◌≡◌, ℕ, true, false, pos, negsuc, codes, [], ◌∷◌}
use Rattle.law_numbers.specs.Extensions.{DecimalOf}
use Rattle.law_terms.specs.ValueOrder.{values as these}
use Rattle.law_terms.specs.Values.{Value, BoolValue, BitVecValue, StringValue, EntityValue, ExtensionValue, NoneValue, SomeValue}
use Rattle.law_terms.specs.Values.{RecordValue, SetValue, no_field_values, one_field_value as field}
use Rattle.smt_values.specs.Cedar.{PlainCedar, NeverType, AnyBoolType, OneBoolType, LongType, TextType, SetType, EmptySetType}
use Rattle.smt_values.specs.Cedar.{ClosedRecordType, OpenRecordType, AnyEntityType, EntityOfType, ExtensionNamed, CedarAttributes}
use Rattle.smt_values.specs.Cedar.{no_attributes, attribute}
use Rattle.smt_values.specs.Constructed.{call_with}
use Rattle.smt_values.specs.PlainValues.{TruthOf, LongOf, TextOf, EntityOf, PlainValue, LiteralValue, SetValue as CedarSet}
use Rattle.smt_values.specs.PlainValues.{ExtensionValue as CedarExtension, RecordValue as CedarRecord, no_fields, one_field, values}
use Rattle.law_cedar.specs.CedarMeaning.{cedar_value}
use Rattle.law_cedar.specs.CedarTyping.{IsInOrder, IsOfType}

-- ---- values and types

-- the literal `true`
abbrev pub yes : PlainValue
yes = LiteralValue (TruthOf true)

-- a number as a literal
abbrev pub long : ℕ → PlainValue
long n = LiteralValue (LongOf (pos n))

-- the number -1 as a literal
abbrev pub minus_one : PlainValue
minus_one = LiteralValue (LongOf (negsuc 0))

-- "é", which is one code point spelled in two bytes
abbrev pub accented : PlainValue
accented = LiteralValue (TextOf (195 ∷ 169 ∷ []))

-- the user ann as a literal
abbrev pub user : PlainValue
user = LiteralValue (EntityOf (codes "User") (codes "ann"))

-- the type of entities that are users
abbrev pub users : PlainCedar
users = EntityOfType (codes "User" ∷ [])

-- `decimal("1.0")`, which says a decimal value
abbrev pub one : PlainValue
one = CedarExtension (call_with (codes "decimal") (codes "1.0"))

-- `decimal("1")`, which says no value, since its text has no point
abbrev pub bad : PlainValue
bad = CedarExtension (call_with (codes "decimal") (codes "1"))

-- the set `[2, 1, 2]`, whose element 2 was given twice
abbrev pub twos_and_one : PlainValue
twos_and_one = CedarSet (values (long 2 ∷ long 1 ∷ long 2 ∷ []))

-- the set `[1, true]`, whose elements are of two types
abbrev pub mixed : PlainValue
mixed = CedarSet (values (long 1 ∷ yes ∷ []))

-- the empty set `[]`
abbrev pub nothing : PlainValue
nothing = CedarSet (values [])

-- the record `{a: .., b: ..}` of these values
abbrev pub with_both : (a b : PlainValue) → PlainValue
with_both a b = CedarRecord (one_field (codes "a") a (one_field (codes "b") b no_fields))

-- the record `{b: ..}` of this value
abbrev pub with_b : PlainValue → PlainValue
with_b b = CedarRecord (one_field (codes "b") b no_fields)

-- the record `{a: ..}` of this value
abbrev pub with_a : PlainValue → PlainValue
with_a a = CedarRecord (one_field (codes "a") a no_fields)

-- the attributes of the record type `{a?: Long, b: Bool}`
abbrev pub named : CedarAttributes
named = attribute (codes "a") LongType false (attribute (codes "b") AnyBoolType true no_attributes)

-- the attributes of `named` out of the order of their bytes
abbrev pub turned : CedarAttributes
turned = attribute (codes "b") AnyBoolType true (attribute (codes "a") LongType false no_attributes)

-- ---- examples

-- a number as a value of 64 bits
abbrev pub bits : ℕ → Value
bits n = BitVecValue 64 n

-- what values mean at types, and which mean nothing of use there
pub record MeaningExamples : Type 0 where
  pub truth : cedar_value AnyBoolType yes ≡ BoolValue true
  pub below_zero : cedar_value LongType minus_one ≡ bits 18446744073709551615
  pub text : cedar_value TextType accented ≡ StringValue (233 ∷ [])
  pub entity : cedar_value users user ≡ EntityValue (codes "User") (codes "ann")
  pub extension : cedar_value (ExtensionNamed (codes "decimal")) one ≡ ExtensionValue (DecimalOf (pos 10000))
  -- elements in their order, each once
  pub elements : cedar_value (SetType LongType) twos_and_one ≡ SetValue (these (bits 1 ∷ bits 2 ∷ []))
  pub empty : cedar_value (SetType LongType) nothing ≡ SetValue (these [])
  -- an attribute that is not required, there and absent
  pub there :
      cedar_value (ClosedRecordType named) (with_both (long 5) yes)
      ≡ RecordValue (field (codes "a") (SomeValue (bits 5)) (field (codes "b") (BoolValue true) no_field_values))
  pub absent :
      cedar_value (ClosedRecordType named) (with_b yes)
      ≡ RecordValue (field (codes "a") NoneValue (field (codes "b") (BoolValue true) no_field_values))
  -- records as elements
  pub inner : cedar_value (SetType (ClosedRecordType named)) (CedarSet (values (with_both (long 5) yes ∷ with_b yes ∷ [])))
      ≡ SetValue (these (RecordValue (field (codes "a") NoneValue (field (codes "b") (BoolValue true) no_field_values))
      ∷ RecordValue (field (codes "a") (SomeValue (bits 5)) (field (codes "b") (BoolValue true) no_field_values)) ∷ []))
  -- of no use
  pub no_extension : cedar_value (ExtensionNamed (codes "decimal")) bad ≡ BoolValue false
  pub no_set_type : cedar_value LongType twos_and_one ≡ BoolValue false
  pub no_record_type : cedar_value (OpenRecordType named) (with_b yes) ≡ BoolValue false
  pub missing :
      cedar_value (ClosedRecordType named) (with_a (long 5))
      ≡ RecordValue (field (codes "a") (SomeValue (bits 5)) (field (codes "b") (BoolValue false) no_field_values))

-- values that are of their types
pub record TypingExamples : Type 0 where
  pub truth : IsOfType AnyBoolType yes
  pub one_truth : IsOfType (OneBoolType true) yes
  pub below_zero : IsOfType LongType minus_one
  pub text : IsOfType TextType accented
  pub entity : IsOfType users user
  pub any_entity : IsOfType AnyEntityType user
  pub extension : IsOfType (ExtensionNamed (codes "decimal")) one
  -- by the last part of the name
  pub spaced : IsOfType (ExtensionNamed (codes "my::decimal")) one
  pub elements : IsOfType (SetType LongType) twos_and_one
  pub empty : IsOfType EmptySetType nothing
  pub empty_of_never : IsOfType (SetType NeverType) nothing
  pub there : IsOfType (ClosedRecordType named) (with_both (long 5) yes)
  pub absent : IsOfType (ClosedRecordType named) (with_b yes)
  pub others : IsOfType (OpenRecordType (attribute (codes "b") AnyBoolType true no_attributes)) (with_both (long 5) yes)

-- values that are not of these types
pub record RefusalExamples : Type 0 where
  pub never : ¬ IsOfType NeverType yes
  pub other_truth : ¬ IsOfType (OneBoolType false) yes
  pub no_long : ¬ IsOfType LongType yes
  pub other_entity : ¬ IsOfType (EntityOfType (codes "Team" ∷ [])) user
  pub other_extension : ¬ IsOfType (ExtensionNamed (codes "ipaddr")) one
  pub no_extension : ¬ IsOfType (ExtensionNamed (codes "decimal")) bad
  pub other_element : ¬ IsOfType (SetType LongType) mixed
  pub not_empty : ¬ IsOfType EmptySetType twos_and_one
  -- `b` is missing, is of another type, and is not named
  pub missing : ¬ IsOfType (ClosedRecordType named) (with_a (long 5))
  pub other_attribute : ¬ IsOfType (ClosedRecordType named) (with_b (long 5))
  pub other_name : ¬ IsOfType (ClosedRecordType (attribute (codes "a") LongType false no_attributes)) (with_both (long 5) yes)

-- a type whose attributes are in order, and one whose are not
pub record OrderExamples : Type 0 where
  pub ascend : IsInOrder (SetType (ClosedRecordType named))
  pub turned_around : ¬ IsInOrder (ClosedRecordType turned)
