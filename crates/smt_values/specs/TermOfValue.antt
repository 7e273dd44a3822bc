-- The term that stands for a Cedar value at a Cedar type, or the first fault from the left.
use Rattle.std.specs.Prelude.{ℕ, Bool, true, false, bytes_eq, List, [], ◌∷◌, Option, Some, None, Ok, Err, if◌then◌else◌}
use Rattle.law_numbers.specs.BitVectors.{bits_of}
use Rattle.law_numbers.specs.Extensions.{PlainExtension}
use Rattle.law_folding.specs.FoldRecords.{record_of_pairs}
use Rattle.law_terms.specs.Plain.{BitVecLiteral, BoolLiteral, EntityLiteral, ExtensionLiteral, StringLiteral, PlainTerm, LiteralTerm}
use Rattle.law_terms.specs.Plain.{NoneTerm, SomeTerm}
use Rattle.law_terms.specs.TermSets.{set_term}
use Rattle.smt_values.specs.Cedar.{PlainCedar, SetType, ClosedRecordType, CedarAttributes, no_attributes, attribute}
use Rattle.smt_values.specs.TypeOfCedar.{type_of_cedar}
use Rattle.smt_values.specs.Constructors.{value_of_value}
use Rattle.smt_values.specs.PlainValues.{CedarLiteral, TruthOf, LongOf, TextOf, EntityOf, PlainValue, LiteralValue, SetValue, RecordValue}
use Rattle.smt_values.specs.PlainValues.{ExtensionValue, PlainValues, no_values, one_value, PlainFields, no_fields, one_field}
use Rattle.smt_values.specs.Outcomes.{Outcome, ◌>>=◌, converted, NoTerm, NoExtension}

-- ---- values that have one term at every type

-- the term that stands for a literal of Cedar; a Long is the bitvector of its 64 bits in two's complement (theory
-- FixedSizeBitVectors)
abbrev pub literal_term : CedarLiteral → PlainTerm
literal_term (TruthOf b) = LiteralTerm (BoolLiteral b)
literal_term (LongOf n) = LiteralTerm (BitVecLiteral 64 (bits_of 64 n))
literal_term (TextOf text) = LiteralTerm (StringLiteral text)
literal_term (EntityOf type id) = LiteralTerm (EntityLiteral type id)

-- the literal of the value of an extension type that a Cedar value is, or the fault that it is none
abbrev pub extension_term : PlainValue → Option PlainExtension → Outcome PlainTerm
extension_term v (Some x) = Ok (LiteralTerm (ExtensionLiteral x))
extension_term v None = Err (NoExtension v)

-- the term that a value has at any type: a literal and a value of an extension type have one, a set and a record have none
abbrev pub term_at_any_type : PlainValue → Outcome PlainTerm
term_at_any_type (LiteralValue literal) = Ok (literal_term literal)
term_at_any_type (ExtensionValue e) = extension_term (ExtensionValue e) (value_of_value (ExtensionValue e))
term_at_any_type (SetValue vs) = Err (NoTerm (SetValue vs))
term_at_any_type (RecordValue held) = Err (NoTerm (RecordValue held))

-- ---- the elements of sets, and the attributes of records

-- the terms of the elements of a set, in order, or the first fault among them, by what `term_of` states of each
abbrev pub terms_of_elements : (term_of : PlainValue → Outcome PlainTerm) → PlainValues → Outcome (List PlainTerm)
terms_of_elements term_of no_values = Ok []
terms_of_elements term_of (one_value v vs) = term_of v >>= λ t. terms_of_elements term_of vs >>= λ ts. Ok (t ∷ ts)

-- the value of an attribute, where the record has it
abbrev pub field_named : (name : List ℕ) → PlainFields → Option PlainValue
field_named name no_fields = None
field_named name (one_field other v rest) = if bytes_eq name other then Some v else field_named name rest

-- the term of an attribute that the record has: some of it, where the type does not require the attribute
abbrev pub term_held : (required : Bool) → PlainTerm → PlainTerm
term_held true t = t
term_held false t = SomeTerm t

-- the term of an attribute that the record lacks: none, where the type does not require it, else the record has no term
abbrev pub term_lacked : (required : Bool) → PlainCedar → PlainFields → Outcome PlainTerm
term_lacked true type held = Err (NoTerm (RecordValue held))
term_lacked false type held = converted (type_of_cedar type) >>= λ own. Ok (NoneTerm own)

-- the term of an attribute in a record of these fields, by the type of the attribute, whether it is required, and its value in
-- the record, where the record has it
abbrev pub term_of_attribute : (term_of : PlainValue → Outcome PlainTerm) → PlainCedar → (required : Bool) → PlainFields →
    Option PlainValue → Outcome PlainTerm
term_of_attribute term_of type required held (Some v) = term_of v >>= λ t. Ok (term_held required t)
term_of_attribute term_of type required held None = term_lacked required type held

-- ---- all values

abbrev mutual
  -- The term that stands for a Cedar value at a Cedar type, or the first fault from the left: of a set at a set type the set of
  -- its elements' terms, of a record at a closed record type the record of the terms of the type's attributes, and of any other
  -- value its term at any type.
  pub term_of_value : PlainCedar → PlainValue → Outcome PlainTerm
  term_of_value (SetType element) (SetValue vs) =
      terms_of_elements (term_of_value element) vs >>= λ ts. converted (type_of_cedar element) >>= λ own. Ok (set_term own ts)
  term_of_value (ClosedRecordType named) (RecordValue held) = terms_of_attributes named held >>= λ ps. Ok (record_of_pairs ps)
  term_of_value type v = term_at_any_type v

  -- the attributes of a record type in order, each with its term in the record of these fields
  pub terms_of_attributes : CedarAttributes → PlainFields → Outcome (List (List ℕ × PlainTerm))
  terms_of_attributes no_attributes held = Ok []
  terms_of_attributes (attribute name type required others) held =
      term_of_attribute (term_of_value type) type required held (field_named name held) >>=
      λ t. terms_of_attributes others held >>= λ ts. Ok ((name, t) ∷ ts)
