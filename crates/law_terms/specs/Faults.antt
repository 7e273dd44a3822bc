-- The first fault that an encoder meets: a term's type, then its parts in order, then the term itself.
use Rattle.std.specs.Prelude.{bytes_eq, ℕ, Bool, true, false, not, List, [], ◌∷◌, Option, Some, None}
use Rattle.std.specs.List.{list_all, list_any}
use Rattle.std.specs.Option.{option_or}
use Rattle.std.specs.Str.{chars}
use Rattle.law_terms.specs.Types.{type_of, types_of, is_bits, attribute_in}
use Rattle.law_terms.specs.TypeValues.{Enums, members_of, is_code_point}
use Rattle.law_terms.specs.Plain.{PlainType, OptionType, BoolType, EntityType, ExtensionType, RecordType, SetType, AttributeTypes}
use Rattle.law_terms.specs.Plain.{no_attributes, attribute, PatternPart, Character, Wildcard, PlainOp, BvnegoOp, RecordGetOp, StringLikeOp}
use Rattle.law_terms.specs.Plain.{UufOp, PlainLiteral, EntityLiteral, StringLiteral, PlainTerm, Application, NoneTerm, LiteralTerm}
use Rattle.law_terms.specs.Plain.{RecordTerm, SetTerm, SomeTerm, VariableTerm, PlainTerms, no_terms, one_term, PlainFields, no_fields}
use Rattle.law_terms.specs.Plain.{one_field}

-- What terms must keep besides typing, by rules of our own: a datatype of SMT-LIB has a constructor, so an enum type has a member,
-- and the characters of SMT-LIB's strings are 0 to 196607 (theory UnicodeStrings).
pub data Fault : Type 0 where
  -- an enum type without members, also inside another type
  EmptyEnum : (type : List ℕ) → Fault
  -- an entity literal of an enum type whose id is no member
  EnumMissingMember : (type id : List ℕ) → Fault
  -- a character above 196607 in a string literal, or in the id of an entity of no enum type
  EncodeStringFailed : List ℕ → Fault
  -- a character above 196607 in a pattern
  EncodePatternFailed : List PatternPart → Fault
  -- `record.get` without argument
  MalformedRecordGet : Fault
  -- `record.get` of a type that has no declaration
  MissingTypeEncoding : PlainType → Fault
  -- `record.get` of an entity, or of a value of an extension type
  ExpectRecord : PlainType → Fault
  -- `record.get` of a record without the attribute
  RecordMissingAttr : (attribute : List ℕ) → Fault

-- one of the four faults of `record.get`, which no typed term has
abbrev pub is_about_records : Fault → Bool
is_about_records MalformedRecordGet = true
is_about_records (MissingTypeEncoding t) = true
is_about_records (ExpectRecord t) = true
is_about_records (RecordMissingAttr x) = true
is_about_records f = false

-- the fault that there is, where a test does not pass it over
abbrev pub unless : Bool → Option Fault → Option Fault
unless true f = None
unless false f = f

-- a fault where a test does not hold
abbrev pub fault_unless : Bool → Fault → Option Fault
fault_unless true f = None
fault_unless false f = Some f

-- the characters of a text are all at most 196607, as strings of scripts have them
abbrev pub is_string : List ℕ → Bool
is_string s = list_all is_code_point (chars s)

-- a wildcard, or a character that is at most 196607
abbrev pub is_pattern_part : PatternPart → Bool
is_pattern_part (Character c) = is_code_point c
is_pattern_part Wildcard = true

-- an entity type that is an enum type without members
abbrev pub entity_type_fault : (name : List ℕ) → (members : Option (List (List ℕ))) → Option Fault
entity_type_fault e (Some []) = Some (EmptyEnum e)
entity_type_fault e members = None

-- an entity whose id is no member of its enum type, or where it is of no enum type, has a character above 196607
abbrev pub entity_fault : (type id : List ℕ) → (members : Option (List (List ℕ))) → Option Fault
entity_fault e i None = fault_unless (is_string i) (EncodeStringFailed i)
entity_fault e i (Some members) = fault_unless (list_any (bytes_eq i) members) (EnumMissingMember e i)

-- a literal by itself, after its type: an entity or a string
abbrev pub literal_fault : Enums → PlainLiteral → Option Fault
literal_fault enums (EntityLiteral e i) = entity_fault e i (members_of enums e)
literal_fault enums (StringLiteral s) = fault_unless (is_string s) (EncodeStringFailed s)
literal_fault enums l = None

-- a record type that has no attribute of this name
abbrev pub attribute_fault : List ℕ → Option PlainType → Option Fault
attribute_fault x None = Some (RecordMissingAttr x)
attribute_fault x (Some t) = None

-- the fault of `record.get`, by the types of its arguments
abbrev pub record_get_fault : List ℕ → List PlainType → Option Fault
record_get_fault x [] = Some MalformedRecordGet
record_get_fault x (RecordType fs ∷ ts) = attribute_fault x (attribute_in x fs)
record_get_fault x (EntityType e ∷ ts) = Some (ExpectRecord (EntityType e))
record_get_fault x (ExtensionType k ∷ ts) = Some (ExpectRecord (ExtensionType k))
record_get_fault x (t ∷ ts) = Some (MissingTypeEncoding t)

-- `bvnego` to Bool of one argument that is no bitvector, into which the walk does not go
abbrev pub is_passed_over : PlainOp → List PlainType → PlainType → Bool
is_passed_over BvnegoOp (t ∷ []) BoolType = not (is_bits t)
is_passed_over o ts t = false

module _ (enums : Enums) where
  abbrev mutual
    -- the first enum type without members inside a type
    pub type_fault : PlainType → Option Fault
    type_fault (OptionType t) = type_fault t
    type_fault (EntityType e) = entity_type_fault e (members_of enums e)
    type_fault (RecordType x) = attribute_types_fault x
    type_fault (SetType t) = type_fault t
    type_fault t = None

    -- the first enum type without members inside the types of attributes
    pub attribute_types_fault : AttributeTypes → Option Fault
    attribute_types_fault no_attributes = None
    attribute_types_fault (attribute a t x) = option_or (type_fault t) (attribute_types_fault x)

  -- the fault of an application itself, after its type and its arguments
  abbrev pub operator_fault : PlainOp → List PlainType → Option Fault
  operator_fault (UufOp f) ts = option_or (type_fault f.argument) (type_fault f.output)
  operator_fault (StringLikeOp p) ts = fault_unless (list_all is_pattern_part p) (EncodePatternFailed p)
  operator_fault (RecordGetOp x) ts = record_get_fault x ts
  operator_fault o ts = None

  abbrev mutual
    -- the first fault of a term: of its type, of its parts in order, of the term itself
    pub term_fault : PlainTerm → Option Fault
    term_fault (Application o ts t) =
        unless (is_passed_over o (types_of ts) t) (option_or (type_fault t) (option_or (terms_fault ts) (operator_fault o (types_of ts))))
    term_fault (NoneTerm t) = type_fault t
    term_fault (LiteralTerm l) = option_or (type_fault (type_of (LiteralTerm l))) (literal_fault enums l)
    term_fault (RecordTerm fs) = option_or (type_fault (type_of (RecordTerm fs))) (fields_fault fs)
    term_fault (SetTerm t ts) = option_or (type_fault t) (terms_fault ts)
    term_fault (SomeTerm t) = option_or (type_fault (type_of t)) (term_fault t)
    term_fault (VariableTerm id t) = type_fault t

    -- the first fault of terms that are parts of one term, from left to right
    pub terms_fault : PlainTerms → Option Fault
    terms_fault no_terms = None
    terms_fault (one_term t ts) = option_or (term_fault t) (terms_fault ts)

    -- the first fault of the terms of a record's fields, from left to right
    pub fields_fault : PlainFields → Option Fault
    fields_fault no_fields = None
    fields_fault (one_field a t fs) = option_or (term_fault t) (fields_fault fs)

  -- the first fault of a list of terms, from left to right
  abbrev pub first_fault : List PlainTerm → Option Fault
  first_fault [] = None
  first_fault (t ∷ ts) = option_or (term_fault t) (first_fault ts)
