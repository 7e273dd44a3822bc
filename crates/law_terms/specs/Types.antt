-- The types of terms and of what operators give.
use Rattle.std.specs.Prelude.{ℕ, ◌+◌, Bool, true, false, ◌&&◌, nat_le, bytes_eq, List, [], ◌∷◌, map, Option, Some, None}
use Rattle.std.specs.Bool.{then_some}
use Rattle.std.specs.Ordering.{nat_cmp, ordering_then, is_eq}
use Rattle.std.specs.declared.cmp.Ordering.{Ordering}
use Rattle.std.specs.declared.cmp.Ordering.TheVariants.{Less, Equal, Greater}
use Rattle.law_terms.specs.ValueOrder.{text_cmp}
use Rattle.law_terms.specs.Plain.{ExtensionKind, IpAddrKind, DecimalKind, DatetimeKind, DurationKind, PlainType, OptionType, BitVecType}
use Rattle.law_terms.specs.Plain.{BoolType, EntityType, ExtensionType, StringType, RecordType, SetType, AttributeTypes, no_attributes}
use Rattle.law_terms.specs.Plain.{attribute, ExtensionOp, DatetimeOfBitVecOp, DatetimeValOp, DecimalValOp, DurationOfBitVecOp}
use Rattle.law_terms.specs.Plain.{DurationValOp, IpAddrV4Op, IpAddrV6Op, IpIsV4Op, IpPrefixV4Op, IpPrefixV6Op, PlainOp, AndOp, BvnegOp}
use Rattle.law_terms.specs.Plain.{BvnegoOp, EqOp, ExtOp, IteOp, NotOp, OptionGetOp, OrOp, RecordGetOp, SetInterOp, SetMemberOp, SetSubsetOp}
use Rattle.law_terms.specs.Plain.{StringLikeOp, UufOp, ZeroExtendOp, PlainExtension, DecimalOf, Ipv4Of, Ipv6Of, DatetimeOf, DurationOf}
use Rattle.law_terms.specs.Plain.{PlainLiteral, BitVecLiteral, BoolLiteral, EntityLiteral, ExtensionLiteral, StringLiteral, PlainTerm}
use Rattle.law_terms.specs.Plain.{Application, NoneTerm, LiteralTerm, RecordTerm, SetTerm, SomeTerm, VariableTerm, PlainTerms, PlainFields}
use Rattle.law_terms.specs.Plain.{no_fields, one_field, list_of_terms, BitsOp, TestOp, OverflowOp}

-- the place of an extension type in the order of types
abbrev pub extension_kind_place : ExtensionKind → ℕ
extension_kind_place IpAddrKind = 0
extension_kind_place DecimalKind = 1
extension_kind_place DatetimeKind = 2
extension_kind_place DurationKind = 3

-- the place of a type's kind in the order of types
abbrev pub type_place : PlainType → ℕ
type_place (OptionType t) = 0
type_place (BitVecType n) = 1
type_place BoolType = 2
type_place (EntityType e) = 3
type_place (ExtensionType k) = 4
type_place StringType = 5
type_place (RecordType fs) = 6
type_place (SetType t) = 7

abbrev mutual
  -- the order of types, by kind and then part by part
  pub type_cmp : PlainType → PlainType → Ordering
  type_cmp (OptionType t) (OptionType u) = type_cmp t u
  type_cmp (BitVecType n) (BitVecType m) = nat_cmp n m
  type_cmp (EntityType e) (EntityType f) = text_cmp e f
  type_cmp (ExtensionType k) (ExtensionType l) = nat_cmp (extension_kind_place k) (extension_kind_place l)
  type_cmp (RecordType x) (RecordType y) = attribute_types_cmp x y
  type_cmp (SetType t) (SetType u) = type_cmp t u
  type_cmp t u = nat_cmp (type_place t) (type_place u)

  -- lists of attributes at their first difference, by the name and then the type; a list stands before the longer ones it begins
  pub attribute_types_cmp : AttributeTypes → AttributeTypes → Ordering
  attribute_types_cmp no_attributes no_attributes = Equal
  attribute_types_cmp no_attributes (attribute b u y) = Less
  attribute_types_cmp (attribute a t x) no_attributes = Greater
  attribute_types_cmp (attribute a t x) (attribute b u y) =
      ordering_then (ordering_then (text_cmp a b) (type_cmp t u)) (attribute_types_cmp x y)

-- equality of types, as a test
abbrev pub type_eq : PlainType → PlainType → Bool
type_eq t u = is_eq (type_cmp t u)

-- the extension type of a value
abbrev pub kind_of : PlainExtension → ExtensionKind
kind_of (DecimalOf z) = DecimalKind
kind_of (Ipv4Of a p) = IpAddrKind
kind_of (Ipv6Of a p) = IpAddrKind
kind_of (DatetimeOf z) = DatetimeKind
kind_of (DurationOf z) = DurationKind

-- the type of a literal: bits of its width, an entity of its type, a value of its extension type
abbrev pub literal_type : PlainLiteral → PlainType
literal_type (BitVecLiteral n a) = BitVecType n
literal_type (BoolLiteral b) = BoolType
literal_type (EntityLiteral e i) = EntityType e
literal_type (ExtensionLiteral x) = ExtensionType (kind_of x)
literal_type (StringLiteral s) = StringType

abbrev mutual
  -- The type of a term: that of an application is the one that is claimed for it, which `typed` checks, and all others follow from
  -- the parts.
  pub type_of : PlainTerm → PlainType
  type_of (Application o ts t) = t
  type_of (NoneTerm t) = OptionType t
  type_of (LiteralTerm l) = literal_type l
  type_of (RecordTerm fs) = RecordType (field_types fs)
  type_of (SetTerm t ts) = SetType t
  type_of (SomeTerm t) = OptionType (type_of t)
  type_of (VariableTerm id t) = t

  -- the attributes of a record, each with the type of its term
  pub field_types : PlainFields → AttributeTypes
  field_types no_fields = no_attributes
  field_types (one_field a t fs) = attribute a (type_of t) (field_types fs)

-- the types of arguments or elements, in order
abbrev pub types_of : PlainTerms → List PlainType
types_of ts = map type_of (list_of_terms ts)

-- a bitvector type, of any width
abbrev pub is_bits : PlainType → Bool
is_bits (BitVecType n) = true
is_bits t = false

-- the width of a bitvector type
abbrev pub width_in : PlainType → Option ℕ
width_in (BitVecType n) = Some n
width_in t = None

-- a set type, of any element type
abbrev pub is_set : PlainType → Bool
is_set (SetType t) = true
is_set t = false

-- the type inside an option type
abbrev pub inner_type : PlainType → Option PlainType
inner_type (OptionType t) = Some t
inner_type t = None

-- the type of the first attribute of this name
abbrev pub attribute_in : List ℕ → AttributeTypes → Option PlainType
attribute_in x no_attributes = None
attribute_in x (attribute a t fs) = elim (bytes_eq x a) [ true ↦ Some t | false ↦ attribute_in x fs ]

-- the type that an attribute has in a record type, none where there is no such attribute or the type is no record type
abbrev pub attribute_type : List ℕ → PlainType → Option PlainType
attribute_type x (RecordType fs) = attribute_in x fs
attribute_type x t = None

-- a bitvector type with k bits more (logic QF_BV, zero_extend); none beyond 128 bits, a bound of ours
abbrev pub extended_type : ℕ → PlainType → Option PlainType
extended_type k (BitVecType n) = then_some (nat_le (n + k) 128) (BitVecType (n + k))
extended_type k t = None

-- two bitvector types of one width
abbrev pub bits_and_bits : PlainType → PlainType → Bool
bits_and_bits t u = is_bits t && type_eq t u

-- The argument type and the result type of the operators of extension types. In a script they are selectors and constructors of
-- the datatypes, and the test of the constructor of IPv4 ranges.
abbrev pub extension_signature : ExtensionOp → (PlainType × PlainType)
extension_signature DatetimeOfBitVecOp = (BitVecType 64, ExtensionType DatetimeKind)
extension_signature DatetimeValOp = (ExtensionType DatetimeKind, BitVecType 64)
extension_signature DecimalValOp = (ExtensionType DecimalKind, BitVecType 64)
extension_signature DurationOfBitVecOp = (BitVecType 64, ExtensionType DurationKind)
extension_signature DurationValOp = (ExtensionType DurationKind, BitVecType 64)
extension_signature IpAddrV4Op = (ExtensionType IpAddrKind, BitVecType 32)
extension_signature IpAddrV6Op = (ExtensionType IpAddrKind, BitVecType 128)
extension_signature IpIsV4Op = (ExtensionType IpAddrKind, BoolType)
extension_signature IpPrefixV4Op = (ExtensionType IpAddrKind, OptionType (BitVecType 5))
extension_signature IpPrefixV6Op = (ExtensionType IpAddrKind, OptionType (BitVecType 7))

-- The type that an operator gives to arguments of these types, or none where it does not take them. It restates the rank of each
-- operator in the theories Core, FixedSizeBitVectors and UnicodeStrings, in the logic QF_BV and in cvc5's finite sets.
abbrev pub result_type : PlainOp → List PlainType → Option PlainType
result_type NotOp (t ∷ []) = then_some (type_eq t BoolType) BoolType
result_type AndOp (t ∷ u ∷ []) = then_some (type_eq t BoolType && type_eq u BoolType) BoolType
result_type OrOp (t ∷ u ∷ []) = then_some (type_eq t BoolType && type_eq u BoolType) BoolType
result_type EqOp (t ∷ u ∷ []) = then_some (type_eq t u) BoolType
result_type IteOp (g ∷ t ∷ u ∷ []) = then_some (type_eq g BoolType && type_eq t u) t
result_type (UufOp f) (t ∷ []) = then_some (type_eq t f.argument) f.output
result_type BvnegOp (t ∷ []) = then_some (is_bits t) t
result_type (BitsOp o) (t ∷ u ∷ []) = then_some (bits_and_bits t u) t
result_type (TestOp o) (t ∷ u ∷ []) = then_some (bits_and_bits t u) BoolType
result_type (OverflowOp o) (t ∷ u ∷ []) = then_some (bits_and_bits t u) BoolType
result_type BvnegoOp (t ∷ []) = then_some (is_bits t) BoolType
result_type (ZeroExtendOp k) (t ∷ []) = extended_type k t
result_type SetMemberOp (t ∷ u ∷ []) = then_some (type_eq u (SetType t)) BoolType
result_type SetSubsetOp (t ∷ u ∷ []) = then_some (is_set t && type_eq t u) BoolType
result_type SetInterOp (t ∷ u ∷ []) = then_some (is_set t && type_eq t u) t
result_type OptionGetOp (t ∷ []) = inner_type t
result_type (RecordGetOp x) (t ∷ []) = attribute_type x t
result_type (StringLikeOp p) (t ∷ []) = then_some (type_eq t StringType) BoolType
result_type (ExtOp o) (t ∷ []) = then_some (type_eq t (extension_signature o).0) (extension_signature o).1
result_type o ts = None

-- there is a type, and it is this one
abbrev pub is_type : Option PlainType → PlainType → Bool
is_type None t = false
is_type (Some u) t = type_eq u t
