-- Types, operators and terms without where they lie in memory. A text is the list of its UTF-8 bytes.
use Rattle.std.specs.Prelude.{◌≡◌, ℕ, Bool, List, [], ◌∷◌}
pub use Rattle.law_numbers.specs.BitOperators.{BitsOperator, TestOperator, OverflowOperator}
pub use Rattle.law_numbers.specs.Extensions.{PlainExtension, DecimalOf, Ipv4Of, Ipv6Of, DatetimeOf, DurationOf}

-- the extension types: IP addresses, decimals, datetimes and durations
pub data ExtensionKind : Type 0 where
  IpAddrKind : ExtensionKind
  DecimalKind : ExtensionKind
  DatetimeKind : ExtensionKind
  DurationKind : ExtensionKind

mutual
  -- A type. Bool, bitvectors, strings and sets are sorts of SMT-LIB and of cvc5's finite sets; options, entities of a named type,
  -- values of an extension type and records are datatypes in a script.
  pub data PlainType : Type 0 where
    OptionType : PlainType → PlainType
    BitVecType : (width : ℕ) → PlainType
    BoolType : PlainType
    EntityType : (name : List ℕ) → PlainType
    ExtensionType : ExtensionKind → PlainType
    StringType : PlainType
    RecordType : AttributeTypes → PlainType
    SetType : PlainType → PlainType

  -- the attributes of a record type, each with its type; in a formed type they ascend strictly by their bytes
  pub data AttributeTypes : Type 0 where
    no_attributes : AttributeTypes
    attribute : (name : List ℕ) → PlainType → AttributeTypes → AttributeTypes

-- an uninterpreted function of one argument: its id, and the types of its argument and of what it gives
pub record PlainFunction : Type 0 where
  pub id : List ℕ
  pub argument : PlainType
  pub output : PlainType

-- the operators of extension types: bits of a value, a value from its bits, and the family, address and prefix of an IP range
pub data ExtensionOp : Type 0 where
  DatetimeOfBitVecOp : ExtensionOp
  DatetimeValOp : ExtensionOp
  DecimalValOp : ExtensionOp
  DurationOfBitVecOp : ExtensionOp
  DurationValOp : ExtensionOp
  IpAddrV4Op : ExtensionOp
  IpAddrV6Op : ExtensionOp
  IpIsV4Op : ExtensionOp
  IpPrefixV4Op : ExtensionOp
  IpPrefixV6Op : ExtensionOp

-- a part of a pattern: a character by its code point, or a wildcard, which stands for any characters
pub data PatternPart : Type 0 where
  Character : ℕ → PatternPart
  Wildcard : PatternPart

-- An operator: those of Core, of bitvectors (theory FixedSizeBitVectors and logic QF_BV; those of two bitvectors stand in three
-- classes), of finite sets (cvc5) and of extension types; the part of an option or of a record, the match of a pattern, and the
-- application of a function. Each takes a fixed number of arguments: `and` and `or` take two.
pub data PlainOp : Type 0 where
  AndOp : PlainOp
  BitsOp : BitsOperator → PlainOp
  BvnegOp : PlainOp
  BvnegoOp : PlainOp
  EqOp : PlainOp
  ExtOp : ExtensionOp → PlainOp
  IteOp : PlainOp
  NotOp : PlainOp
  OptionGetOp : PlainOp
  OrOp : PlainOp
  OverflowOp : OverflowOperator → PlainOp
  RecordGetOp : (attribute : List ℕ) → PlainOp
  SetInterOp : PlainOp
  SetMemberOp : PlainOp
  SetSubsetOp : PlainOp
  StringLikeOp : List PatternPart → PlainOp
  TestOp : TestOperator → PlainOp
  UufOp : PlainFunction → PlainOp
  ZeroExtendOp : (bits : ℕ) → PlainOp

-- a literal: bits by width and number, a truth value, an entity by type and id, a value of an extension type, or a string
pub data PlainLiteral : Type 0 where
  BitVecLiteral : (width number : ℕ) → PlainLiteral
  BoolLiteral : Bool → PlainLiteral
  EntityLiteral : (type id : List ℕ) → PlainLiteral
  ExtensionLiteral : PlainExtension → PlainLiteral
  StringLiteral : List ℕ → PlainLiteral

mutual
  -- A term. An application has the type that is claimed for it, `NoneTerm` the type that the option would have inside. In a typed
  -- term the elements of a set ascend strictly by the order of terms, in a formed one the attributes of a record by their bytes.
  -- Left out are quantifiers, `let`, arrays and numbers without bound.
  pub data PlainTerm : Type 0 where
    Application : PlainOp → PlainTerms → (type : PlainType) → PlainTerm
    NoneTerm : PlainType → PlainTerm
    LiteralTerm : PlainLiteral → PlainTerm
    RecordTerm : PlainFields → PlainTerm
    SetTerm : (element : PlainType) → PlainTerms → PlainTerm
    SomeTerm : PlainTerm → PlainTerm
    VariableTerm : (id : List ℕ) → PlainType → PlainTerm

  -- the arguments of an application, or the elements of a set, in order
  pub data PlainTerms : Type 0 where
    no_terms : PlainTerms
    one_term : PlainTerm → PlainTerms → PlainTerms

  -- the fields of a record: each attribute with its term
  pub data PlainFields : Type 0 where
    no_fields : PlainFields
    one_field : (attribute : List ℕ) → PlainTerm → PlainFields → PlainFields

-- a list of terms, in the form in which terms have their parts
abbrev pub terms : List PlainTerm → PlainTerms
terms [] = no_terms
terms (t ∷ ts) = one_term t (terms ts)

-- the parts of a term, as a list
abbrev pub list_of_terms : PlainTerms → List PlainTerm
list_of_terms no_terms = []
list_of_terms (one_term t ts) = t ∷ list_of_terms ts

-- attributes and their types as the attributes of a record type
abbrev pub attribute_types : List (List ℕ × PlainType) → AttributeTypes
attribute_types [] = no_attributes
attribute_types (p ∷ ps) = attribute p.0 p.1 (attribute_types ps)

-- attributes and their terms as the fields of a record
abbrev pub record_fields : List (List ℕ × PlainTerm) → PlainFields
record_fields [] = no_fields
record_fields (p ∷ ps) = one_field p.0 p.1 (record_fields ps)

-- a list of terms that is put into a term's form comes out of it the same
abbrev pub RoundTrip : Type 0
RoundTrip = (ts : List PlainTerm) → list_of_terms (terms ts) ≡ ts
