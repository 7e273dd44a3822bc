-- The type of terms that stands for a Cedar type, or why the first type from the left that is not supported is not.
use Rattle.std.specs.Prelude.{ℕ, Bool, true, false, bytes_eq, nat_eq, codes, List, [], ◌∷◌, ◌++◌, Option, Some, None, Result, Ok, Err, drop}
use Rattle.std.specs.Prelude.{if◌then◌else◌}
use Rattle.std.specs.List.{starts_with}
use Rattle.std.specs.Map.{lookup}
use Rattle.law_terms.specs.Plain.{ExtensionKind, IpAddrKind, DecimalKind, DatetimeKind, DurationKind, PlainType, OptionType, BitVecType}
use Rattle.law_terms.specs.Plain.{BoolType, EntityType, ExtensionType, StringType, RecordType, SetType, AttributeTypes, no_attributes}
use Rattle.law_terms.specs.Plain.{attribute}
pub use Rattle.law_texts.specs.Outcomes.{◌>>=◌}
use Rattle.smt_values.specs.Cedar.{PlainCedar, NeverType, AnyBoolType, OneBoolType, LongType, TextType, SetType as CedarSetType}
use Rattle.smt_values.specs.Cedar.{EmptySetType, ClosedRecordType, OpenRecordType, AnyEntityType, EntityOfType, ExtensionNamed}
use Rattle.smt_values.specs.Cedar.{CedarAttributes, no_attributes as no_cedar_attributes, attribute as cedar_attribute}

-- what is stated of a Cedar type: a result, or the text of the first refusal
abbrev pub Stated : Type 0 → Type 0
Stated A = Result A (List ℕ)

-- ---- extension types

-- what follows two colons at the front of a text, where they stand there
abbrev pub behind_colons : List ℕ → Option (List ℕ)
behind_colons s = if starts_with nat_eq s (codes "::") then Some (drop 2 s) else None

-- the first of two values, and where that is lacking the second
abbrev pub first_of : {A : Type 0} → Option A → Option A → Option A
first_of (Some a) o = Some a
first_of None o = o

-- what follows the last `::` of a text, where it has one
abbrev pub behind_last : List ℕ → Option (List ℕ)
behind_last [] = None
behind_last (x ∷ s) = first_of (behind_last s) (behind_colons (x ∷ s))

-- the last part of a name where one is given, and else the whole name
abbrev pub last_or_whole : (name : List ℕ) → Option (List ℕ) → List ℕ
last_or_whole name (Some part) = part
last_or_whole name None = name

-- the last part of a name: what follows its last `::`, or the whole name, where it has none
abbrev pub last_name : List ℕ → List ℕ
last_name name = last_or_whole name (behind_last name)

-- Cedar's four extension types by the last parts of their names
abbrev pub named_kinds : List (List ℕ × ExtensionKind)
named_kinds =
    (codes "ipaddr", IpAddrKind) ∷ (codes "decimal", DecimalKind) ∷ (codes "datetime", DatetimeKind) ∷ (codes "duration", DurationKind) ∷ []

-- the extension type whose name has this last part, where there is one
abbrev pub extension_named : List ℕ → Option ExtensionKind
extension_named part = lookup (bytes_eq part) named_kinds

-- the text that refuses an extension type whose name has this last part
abbrev pub unsupported_extension : List ℕ → List ℕ
unsupported_extension part = codes "unsupported extension " ++ part

-- the type of terms of an extension type that was found by the last part of its name, or the refusal where none was found
abbrev pub type_of_kind : (part : List ℕ) → Option ExtensionKind → Stated PlainType
type_of_kind part (Some kind) = Ok (ExtensionType kind)
type_of_kind part None = Err (unsupported_extension part)

-- the type of terms of the extension type of this name, or its refusal
abbrev pub type_of_extension : (name : List ℕ) → Stated PlainType
type_of_extension name = type_of_kind (last_name name) (extension_named (last_name name))

-- ---- entities

-- the type of terms of entities of these types, of which there has to be exactly one
abbrev pub type_of_entities : (types : List (List ℕ)) → Stated PlainType
type_of_entities (type ∷ []) = Ok (EntityType type)
type_of_entities types = Err (codes "EntityLUB has multiple elements")

-- ---- records

-- the type of terms of an attribute in a record: an option, where the attribute is not required
abbrev pub held : (required : Bool) → PlainType → PlainType
held true type = type
held false type = OptionType type

-- the type of terms of an attribute in a record by what is stated of the attribute's own type
abbrev pub type_held : (required : Bool) → Stated PlainType → Stated PlainType
type_held required type = type >>= λ own. Ok (held required own)

-- ---- all types

abbrev mutual
  -- The type of terms that stands for a Cedar type, or the text of the first refusal from the left. A Long is a bitvector of 64
  -- bits, and a record has to be closed. The types of no values, of one truth value, of the empty set alone and of entities of
  -- any or of several types are refused.
  pub type_of_cedar : PlainCedar → Stated PlainType
  type_of_cedar NeverType = Err (codes "never type is not supported")
  type_of_cedar AnyBoolType = Ok BoolType
  type_of_cedar (OneBoolType b) = Err (codes "singleton Bool type is not supported")
  type_of_cedar LongType = Ok (BitVecType 64)
  type_of_cedar TextType = Ok StringType
  type_of_cedar (CedarSetType element) = type_of_cedar element >>= λ type. Ok (SetType type)
  type_of_cedar EmptySetType = Err (codes "empty set type is unsupported")
  type_of_cedar (ClosedRecordType named) = types_of_attributes named >>= λ types. Ok (RecordType types)
  type_of_cedar (OpenRecordType named) = Err (codes "unsupported open attributes")
  type_of_cedar AnyEntityType = Err (codes "AnyEntity is not supported")
  type_of_cedar (EntityOfType types) = type_of_entities types
  type_of_cedar (ExtensionNamed name) = type_of_extension name

  -- the types of terms of a record type's attributes, in order, or the first refusal among them
  pub types_of_attributes : CedarAttributes → Stated AttributeTypes
  types_of_attributes no_cedar_attributes = Ok no_attributes
  types_of_attributes (cedar_attribute name type required others) =
      type_held required (type_of_cedar type) >>= λ own. types_of_attributes others >>= λ types. Ok (attribute name own types)
