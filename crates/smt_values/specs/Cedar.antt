-- Cedar types without where they lie in memory. A text is the list of its UTF-8 bytes.
use Rattle.std.specs.Prelude.{ℕ, Bool, List, [], ◌∷◌}

-- a Cedar type; in every type of the program the attributes of a record ascend strictly by their bytes
mutual
  pub data PlainCedar : Type 0 where
    -- no values
    NeverType : PlainCedar
    -- both truth values
    AnyBoolType : PlainCedar
    -- one truth value alone
    OneBoolType : Bool → PlainCedar
    -- signed integers of 64 bits, Cedar's Long
    LongType : PlainCedar
    -- texts, Cedar's String
    TextType : PlainCedar
    -- sets of values of a type
    SetType : PlainCedar → PlainCedar
    -- the empty set alone
    EmptySetType : PlainCedar
    -- records that have these attributes and no others
    ClosedRecordType : CedarAttributes → PlainCedar
    -- records that may have other attributes too
    OpenRecordType : CedarAttributes → PlainCedar
    -- entities, whatever their types
    AnyEntityType : PlainCedar
    -- entities, each of one of these types
    EntityOfType : (types : List (List ℕ)) → PlainCedar
    -- values of the extension type of this name
    ExtensionNamed : (name : List ℕ) → PlainCedar

  -- the attributes of a record type, each with its type and with whether every record has it
  pub data CedarAttributes : Type 0 where
    no_attributes : CedarAttributes
    attribute : (name : List ℕ) → PlainCedar → (required : Bool) → CedarAttributes → CedarAttributes

-- the type of an attribute, and whether every record of the record type has the attribute
pub record PlainAttributeType : Type 0 where
  pub type : PlainCedar
  pub required : Bool

-- the attributes of a list, each with its type, as those of a record type, in the order of the list
abbrev pub cedar_attributes : List (List ℕ × PlainAttributeType) → CedarAttributes
cedar_attributes [] = no_attributes
cedar_attributes (p ∷ ps) = attribute p.0 p.1.type p.1.required (cedar_attributes ps)
