-- Cedar's values without where they lie in memory. A text is the list of its UTF-8 bytes.
use Rattle.std.specs.Prelude.{ℕ, ℤ, Bool, List, [], ◌∷◌}

-- a literal of Cedar: a truth value, a number, a text or an entity
pub data CedarLiteral : Type 0 where
  -- a truth value
  TruthOf : Bool → CedarLiteral
  -- a signed integer of 64 bits
  LongOf : ℤ → CedarLiteral
  -- a text
  TextOf : List ℕ → CedarLiteral
  -- the entity of this type and this id
  EntityOf : (type id : List ℕ) → CedarLiteral

-- one of Cedar's restricted expressions, which have a value whatever the request is
mutual
  pub data PlainExpression : Type 0 where
    LiteralExpression : CedarLiteral → PlainExpression
    -- a call of an extension function
    CallOf : (name : List ℕ) → PlainArguments → PlainExpression
    -- any other, of which nothing is said
    OtherExpression : PlainExpression

  -- the arguments of a call, from first to last
  pub data PlainArguments : Type 0 where
    no_arguments : PlainArguments
    argument : PlainExpression → PlainArguments → PlainArguments

-- a Cedar value; in every value of the program the attributes of a record ascend strictly by their bytes
mutual
  pub data PlainValue : Type 0 where
    -- the value of a literal
    LiteralValue : CedarLiteral → PlainValue
    -- the set of these, in the order in which they were given
    SetValue : PlainValues → PlainValue
    -- the record of these attributes
    RecordValue : PlainFields → PlainValue
    -- the value of an extension type that an expression says
    ExtensionValue : PlainExpression → PlainValue

  -- the elements of a set, in the order in which they were given
  pub data PlainValues : Type 0 where
    no_values : PlainValues
    one_value : PlainValue → PlainValues → PlainValues

  -- the attributes of a record, each with its value
  pub data PlainFields : Type 0 where
    no_fields : PlainFields
    one_field : (attribute : List ℕ) → PlainValue → PlainFields → PlainFields

-- the expressions of a list as the arguments of a call, in order
abbrev pub arguments : List PlainExpression → PlainArguments
arguments [] = no_arguments
arguments (e ∷ es) = argument e (arguments es)

-- the values of a list as the elements of a set, in order
abbrev pub values : List PlainValue → PlainValues
values [] = no_values
values (v ∷ vs) = one_value v (values vs)

-- the attributes of a list, each with its value, as the fields of a record, in order
abbrev pub value_fields : List (List ℕ × PlainValue) → PlainFields
value_fields [] = no_fields
value_fields (p ∷ ps) = one_field p.0 p.1 (value_fields ps)
