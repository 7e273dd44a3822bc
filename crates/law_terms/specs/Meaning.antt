-- The value of a term in an interpretation.
use Rattle.std.specs.Prelude.{◌≡◌, true, false, List, [], ◌∷◌, cond}
use Rattle.std.specs.List.{AllByRecursion}
use Rattle.std.specs.Str.{chars}
use Rattle.law_terms.specs.Operators.{apply}
use Rattle.law_terms.specs.Tables.{Interpretation}
use Rattle.law_terms.specs.Typing.{typed}
use Rattle.law_terms.specs.ValueOrder.{set_of}
use Rattle.law_terms.specs.Plain.{PlainLiteral, BitVecLiteral, BoolLiteral, EntityLiteral, ExtensionLiteral, StringLiteral, PlainTerm}
use Rattle.law_terms.specs.Plain.{Application, NoneTerm, LiteralTerm, RecordTerm, SetTerm, SomeTerm, VariableTerm, PlainTerms, no_terms}
use Rattle.law_terms.specs.Plain.{one_term, PlainFields, no_fields, one_field}
use Rattle.law_terms.specs.Values.{Value, BoolValue, BitVecValue, StringValue, EntityValue, ExtensionValue, NoneValue, SomeValue}
use Rattle.law_terms.specs.Values.{RecordValue, FieldValues, no_field_values, one_field_value}

-- a literal is its own value: a text is the list of the code points that its bytes spell
abbrev pub literal_value : PlainLiteral → Value
literal_value (BitVecLiteral n a) = BitVecValue n a
literal_value (BoolLiteral b) = BoolValue b
literal_value (EntityLiteral e i) = EntityValue e (chars i)
literal_value (ExtensionLiteral x) = ExtensionValue x
literal_value (StringLiteral s) = StringValue (chars s)

abbrev mutual
  -- The value of a typed term (SMT-LIB 2.7, chapter 5, "Logical Semantics"): a literal is its own value, a variable the
  -- interpretation's, an application the value of its operator at the values of its arguments, and a set the set of the values of
  -- its elements, so that two elements of one value are one.
  pub meaning : Interpretation → PlainTerm → Value
  meaning I (Application o ts t) = apply I o t (meanings I ts)
  meaning I (NoneTerm t) = NoneValue
  meaning I (LiteralTerm l) = literal_value l
  meaning I (RecordTerm fs) = RecordValue (field_meanings I fs)
  meaning I (SetTerm t ts) = set_of (meanings I ts)
  meaning I (SomeTerm t) = SomeValue (meaning I t)
  meaning I (VariableTerm id t) = I.variable id t

  -- the values of arguments or elements, in order
  pub meanings : Interpretation → PlainTerms → List Value
  meanings I no_terms = []
  meanings I (one_term t ts) = meaning I t ∷ meanings I ts

  -- the attributes of a record, each with the value of its term
  pub field_meanings : Interpretation → PlainFields → FieldValues
  field_meanings I no_fields = no_field_values
  field_meanings I (one_field a t fs) = one_field_value a (meaning I t) (field_meanings I fs)

-- the value of a term: false where it is not typed
abbrev pub term_value : Interpretation → PlainTerm → Value
term_value I t = cond (typed t) (meaning I t) (BoolValue false)

-- each term is true
abbrev pub AreTrue : Interpretation → List PlainTerm → Type 0
AreTrue I ts = AllByRecursion (λ t. term_value I t ≡ BoolValue true) ts
