-- Values at types, each with its term or with its first fault.
use Rattle.std.specs.Prelude.{◌≡◌, ℕ, true, false, pos, negsuc, codes, List, [], ◌∷◌, Ok, Err}
use Rattle.law_numbers.specs.Extensions.{DecimalOf}
use Rattle.law_terms.specs.Plain.{BitVecLiteral, BoolLiteral, EntityLiteral, ExtensionLiteral, PlainTerm, LiteralTerm, NoneTerm, RecordTerm}
use Rattle.law_terms.specs.Plain.{SetTerm, SomeTerm, BitVecType, BoolType, no_terms, one_term, no_fields as no_term_fields}
use Rattle.law_terms.specs.Plain.{one_field as term_field}
use Rattle.smt_values.specs.Cedar.{PlainCedar, NeverType, AnyBoolType, OneBoolType, LongType, TextType, SetType, EmptySetType}
use Rattle.smt_values.specs.Cedar.{ClosedRecordType, OpenRecordType, CedarAttributes, no_attributes, attribute}
use Rattle.smt_values.specs.Constructed.{call_with}
use Rattle.smt_values.specs.PlainValues.{TruthOf, LongOf, EntityOf, PlainValue, LiteralValue, SetValue, ExtensionValue, RecordValue}
use Rattle.smt_values.specs.PlainValues.{no_fields, one_field, no_values, values}
use Rattle.smt_values.specs.Outcomes.{NoTerm, NoExtension, Unsupported}
use Rattle.smt_values.specs.TermOfValue.{term_of_value}

-- a number as a Cedar value
abbrev pub long : ℕ → PlainValue
long n = LiteralValue (LongOf (pos n))

-- a number as a term: a literal of 64 bits
abbrev pub bits : ℕ → PlainTerm
bits n = LiteralTerm (BitVecLiteral 64 n)

-- `decimal("1.0")`, which says a decimal value
abbrev pub one : PlainValue
one = ExtensionValue (call_with (codes "decimal") (codes "1.0"))

-- `decimal("1")`, which says no value, since its text has no point
abbrev pub bad : PlainValue
bad = ExtensionValue (call_with (codes "decimal") (codes "1"))

-- the text that refuses the type of no values
abbrev pub no_type : List ℕ
no_type = codes "never type is not supported"

-- Values that are neither sets nor records, which have one term even at types that are not theirs.
pub record PartExamples : Type 0 where
  pub truth : term_of_value NeverType (LiteralValue (TruthOf true)) ≡ Ok (LiteralTerm (BoolLiteral true))
  pub below_zero : term_of_value TextType (LiteralValue (LongOf (negsuc 0))) ≡ Ok (bits 18446744073709551615)
  pub entity :
      term_of_value EmptySetType (LiteralValue (EntityOf (codes "T") (codes "a")))
      ≡ Ok (LiteralTerm (EntityLiteral (codes "T") (codes "a")))
  pub extension : term_of_value LongType one ≡ Ok (LiteralTerm (ExtensionLiteral (DecimalOf (pos 10000))))
  pub no_extension : term_of_value LongType bad ≡ Err (NoExtension bad)

-- Sets at types, each with its term or with its first fault.
pub record SetExamples : Type 0 where
  pub sorted :
      term_of_value (SetType LongType) (SetValue (values (long 2 ∷ long 1 ∷ long 2 ∷ [])))
      ≡ Ok (SetTerm (BitVecType 64) (one_term (bits 1) (one_term (bits 2) no_terms)))
  pub empty : term_of_value (SetType AnyBoolType) (SetValue no_values) ≡ Ok (SetTerm BoolType no_terms)
  -- an element is read alike at every type
  pub other_type :
      term_of_value (SetType AnyBoolType) (SetValue (values (long 1 ∷ []))) ≡ Ok (SetTerm BoolType (one_term (bits 1) no_terms))
  -- the first element's fault, then the second's, then the type's
  pub first_element :
      term_of_value (SetType NeverType) (SetValue (values (SetValue no_values ∷ bad ∷ []))) ≡ Err (NoTerm (SetValue no_values))
  pub second_element : term_of_value (SetType NeverType) (SetValue (values (long 1 ∷ bad ∷ []))) ≡ Err (NoExtension bad)
  pub element_type : term_of_value (SetType NeverType) (SetValue (values (long 1 ∷ []))) ≡ Err (Unsupported no_type)
  -- no set type with an element type
  pub no_element_type : term_of_value EmptySetType (SetValue no_values) ≡ Err (NoTerm (SetValue no_values))
  pub no_set_type : term_of_value LongType (SetValue (values (bad ∷ []))) ≡ Err (NoTerm (SetValue (values (bad ∷ []))))

-- the attributes of a record type: `a`, which a record need not have, and `b`, which it has to have, of these types
abbrev pub both : (a b : PlainCedar) → CedarAttributes
both a b = attribute (codes "a") a false (attribute (codes "b") b true no_attributes)

-- Records at types, each with its term or with its first fault.
pub record RecordExamples : Type 0 where
  pub there :
      term_of_value (ClosedRecordType (both LongType LongType))
      (RecordValue (one_field (codes "a") (long 1) (one_field (codes "b") (long 2) no_fields)))
      ≡ Ok (RecordTerm (term_field (codes "a") (SomeTerm (bits 1)) (term_field (codes "b") (bits 2) no_term_fields)))
  -- an attribute that is not required is none of its own type, and one that the type lacks is dropped
  pub absent :
      term_of_value (ClosedRecordType (both AnyBoolType LongType))
      (RecordValue (one_field (codes "b") (long 2) (one_field (codes "c") bad no_fields)))
      ≡ Ok (RecordTerm (term_field (codes "a") (NoneTerm BoolType) (term_field (codes "b") (bits 2) no_term_fields)))
  pub missing :
      term_of_value (ClosedRecordType (both LongType LongType)) (RecordValue (one_field (codes "a") (long 1) no_fields))
      ≡ Err (NoTerm (RecordValue (one_field (codes "a") (long 1) no_fields)))
  -- the fault of the first attribute comes before that of the second
  pub first_value :
      term_of_value (ClosedRecordType (both LongType LongType)) (RecordValue (one_field (codes "a") bad no_fields)) ≡ Err (NoExtension bad)
  pub first_type : term_of_value (ClosedRecordType (both NeverType LongType)) (RecordValue no_fields) ≡ Err (Unsupported no_type)
  -- the type of an attribute that is there is not converted
  pub not_converted :
      term_of_value (ClosedRecordType (both NeverType (OneBoolType true)))
      (RecordValue (one_field (codes "a") (long 1) (one_field (codes "b") (long 2) no_fields)))
      ≡ Ok (RecordTerm (term_field (codes "a") (SomeTerm (bits 1)) (term_field (codes "b") (bits 2) no_term_fields)))
  pub open_type : term_of_value (OpenRecordType no_attributes) (RecordValue no_fields) ≡ Err (NoTerm (RecordValue no_fields))
  pub no_record_type : term_of_value (SetType LongType) (RecordValue no_fields) ≡ Err (NoTerm (RecordValue no_fields))
