-- The values of terms.
use Rattle.std.specs.Prelude.{ℕ, Bool, List}
use Rattle.law_terms.specs.Plain.{PlainExtension}

mutual
  -- A value, as terms have it. Strings and ids are lists of code points. A set is the list of its elements in order, each once, so
  -- that two sets with the same elements are one value. The order of values goes by kind in the order of these constructors, and
  -- then part by part.
  pub data Value : Type 0 where
    BoolValue : Bool → Value
    BitVecValue : (width number : ℕ) → Value
    StringValue : List ℕ → Value
    EntityValue : (type id : List ℕ) → Value
    ExtensionValue : PlainExtension → Value
    NoneValue : Value
    SomeValue : Value → Value
    RecordValue : FieldValues → Value
    SetValue : Values → Value

  -- the elements of a set
  pub data Values : Type 0 where
    no_values : Values
    one_value : Value → Values → Values

  -- the fields of a record: each attribute with its value
  pub data FieldValues : Type 0 where
    no_field_values : FieldValues
    one_field_value : (attribute : List ℕ) → Value → FieldValues → FieldValues
