-- Terms for which lines are a script: what typed terms without fault are.
use Rattle.std.specs.Prelude.{◌≡◌, ◌⊎◌, ℕ, true, nat_lt, chars, length, List, [], Option, Some, None}
use Rattle.std.specs.List.{list_all}
use Rattle.law_terms.specs.Plain.{ExtensionKind, IpAddrKind, DecimalKind, DatetimeKind, DurationKind, PlainType, OptionType, BitVecType}
use Rattle.law_terms.specs.Plain.{EntityType, ExtensionType, RecordType, SetType, AttributeTypes, no_attributes, attribute, ExtensionOp}
use Rattle.law_terms.specs.Plain.{DatetimeOfBitVecOp, DatetimeValOp, DecimalValOp, DurationOfBitVecOp, DurationValOp, IpAddrV4Op}
use Rattle.law_terms.specs.Plain.{IpAddrV6Op, IpIsV4Op, IpPrefixV4Op, IpPrefixV6Op, PlainOp, BvnegoOp, ExtOp, RecordGetOp, StringLikeOp}
use Rattle.law_terms.specs.Plain.{UufOp, PlainLiteral, EntityLiteral, StringLiteral, PlainTerm, Application, NoneTerm, LiteralTerm}
use Rattle.law_terms.specs.Plain.{RecordTerm, SetTerm, SomeTerm, VariableTerm, PlainTerms, no_terms, one_term, PlainFields, no_fields}
use Rattle.law_terms.specs.Plain.{one_field}
use Rattle.law_terms.specs.TypeValues.{Enums, members_of, is_code_point}
use Rattle.law_terms.specs.Types.{type_of}
use Rattle.law_terms.specs.Parts.{attribute_names}
use Rattle.law_numbers.specs.Widths.{is_width}
use Rattle.law_lines.specs.EntryNames.{place_of}
use Rattle.law_lines.specs.Lines.{Rendering, AsApplication, AsEqualsIntMin, AsFalse, application_rendering, first_type}
use Rattle.law_terms.specs.Faults.{is_pattern_part}

-- an enum type has a member, since a datatype has a constructor
abbrev pub HasMember : Option (List (List ℕ)) → Type 0
HasMember (Some []) = ⊥
HasMember members = Unit {0}

abbrev mutual
  -- a type that a sort can stand for: each width is one, and each enum type has a member
  pub IsEncodableType : Enums → PlainType → Type 0
  IsEncodableType enums (OptionType t) = IsEncodableType enums t
  IsEncodableType enums (BitVecType width) = is_width width ≡ true
  IsEncodableType enums (EntityType type) = HasMember (members_of enums type)
  IsEncodableType enums (RecordType attributes) = AreEncodableTypes enums attributes
  IsEncodableType enums (SetType t) = IsEncodableType enums t
  IsEncodableType enums t = Unit {0}

  -- the type of each attribute is such a type
  pub AreEncodableTypes : Enums → AttributeTypes → Type 0
  AreEncodableTypes enums no_attributes = Unit {0}
  AreEncodableTypes enums (attribute a t attributes) = IsEncodableType enums t × AreEncodableTypes enums attributes

-- a member of its enum type, or an id that is written
abbrev pub IsEncodableId : Option (List (List ℕ)) → (id : List ℕ) → Type 0
IsEncodableId None id = list_all is_code_point (chars id) ≡ true
IsEncodableId (Some members) id = nat_lt (place_of id members) (length members) ≡ true

-- an entity whose id can be written, a string of characters up to 196607, or any other literal
abbrev pub IsEncodableLiteral : Enums → PlainLiteral → Type 0
IsEncodableLiteral enums (EntityLiteral type id) = IsEncodableId (members_of enums type) id
IsEncodableLiteral enums (StringLiteral text) = list_all is_code_point (chars text) ≡ true
IsEncodableLiteral enums p = Unit {0}

-- the kind whose names an operator is written with
abbrev pub kind_of_op : ExtensionOp → ExtensionKind
kind_of_op DatetimeOfBitVecOp = DatetimeKind
kind_of_op DatetimeValOp = DatetimeKind
kind_of_op DecimalValOp = DecimalKind
kind_of_op DurationOfBitVecOp = DurationKind
kind_of_op DurationValOp = DurationKind
kind_of_op IpAddrV4Op = IpAddrKind
kind_of_op IpAddrV6Op = IpAddrKind
kind_of_op IpIsV4Op = IpAddrKind
kind_of_op IpPrefixV4Op = IpAddrKind
kind_of_op IpPrefixV6Op = IpAddrKind

-- the application is written as an equality with the least number of its width
abbrev pub IsLeast : Rendering → Type 0
IsLeast AsApplication = ⊥
IsLeast (AsEqualsIntMin width) = Unit {0}
IsLeast AsFalse = ⊥

-- an application has an argument
abbrev pub HasArgument : PlainTerms → Type 0
HasArgument no_terms = ⊥
HasArgument (one_term t ts) = Unit {0}

-- there is exactly one argument
abbrev pub IsOne : PlainTerms → Type 0
IsOne no_terms = ⊥
IsOne (one_term t no_terms) = Unit {0}
IsOne (one_term t (one_term u ts)) = ⊥

-- An operator that can be written at these arguments: `bvnego` as an equality with the least number; an operator of an extension
-- type, at or to a value of it; an attribute that the record type has; a pattern of characters up to 196607 at one argument; a
-- function whose types have sorts; and every other.
abbrev pub IsEncodableOp : Enums → PlainOp → PlainTerms → PlainType → Type 0
IsEncodableOp enums BvnegoOp ts type = IsLeast (application_rendering BvnegoOp ts type)
IsEncodableOp enums (ExtOp x) ts type = (first_type ts ≡ ExtensionType (kind_of_op x)) ⊎ (type ≡ ExtensionType (kind_of_op x))
IsEncodableOp enums (RecordGetOp a) ts type =
    (attributes : AttributeTypes) × (first_type ts ≡ RecordType attributes)
    × (nat_lt (place_of a (attribute_names attributes)) (length (attribute_names attributes)) ≡ true)
IsEncodableOp enums (StringLikeOp p) ts type = IsOne ts × (list_all is_pattern_part p ≡ true)
IsEncodableOp enums (UufOp f) ts type = IsEncodableType enums f.argument × IsEncodableType enums f.output
IsEncodableOp enums op ts type = Unit {0}

abbrev mutual
  -- A term for which lines can be written: its types have sorts, its parts are such terms, and its operator can be written at its
  -- arguments, of which there is one at least.
  pub IsEncodable : Enums → PlainTerm → Type 0
  IsEncodable enums (Application op ts type) =
      IsEncodableType enums type × AreEncodable enums ts × IsEncodableOp enums op ts type × HasArgument ts
  IsEncodable enums (NoneTerm type) = IsEncodableType enums type
  IsEncodable enums (LiteralTerm p) = IsEncodableLiteral enums p
  IsEncodable enums (RecordTerm fields) = IsEncodableType enums (type_of (RecordTerm fields)) × AreEncodableFields enums fields
  IsEncodable enums (SetTerm element ts) = IsEncodableType enums element × AreEncodable enums ts
  IsEncodable enums (SomeTerm t) = IsEncodableType enums (type_of t) × IsEncodable enums t
  IsEncodable enums (VariableTerm id type) = IsEncodableType enums type

  -- each of the terms is such a term
  pub AreEncodable : Enums → PlainTerms → Type 0
  AreEncodable enums no_terms = Unit {0}
  AreEncodable enums (one_term t ts) = IsEncodable enums t × AreEncodable enums ts

  -- the term of each field is such a term
  pub AreEncodableFields : Enums → PlainFields → Type 0
  AreEncodableFields enums no_fields = Unit {0}
  AreEncodableFields enums (one_field a t fields) = IsEncodable enums t × AreEncodableFields enums fields
