-- What the program's types keep of every term: widths, numbers within range, texts in UTF-8, attributes in ascending order.
use Rattle.std.specs.Prelude.{◌^◌, ◌<◌, ◌≤◌, IsTrue, IsUtf8, ⊤}
use Rattle.std.specs.List.{AllByRecursion}
use Rattle.law_terms.specs.Reached.{subterms, types_within}
use Rattle.law_terms.specs.Types.{type_of}
use Rattle.law_terms.specs.TypeValues.{IsExtension}
use Rattle.law_terms.specs.ValueOrder.{text_cmp, ascends}
use Rattle.law_terms.specs.Plain.{IpAddrKind, DecimalKind, DatetimeKind, DurationKind, PlainType, BitVecType, RecordType, PlainExtension}
use Rattle.law_terms.specs.Plain.{DecimalOf, Ipv4Of, Ipv6Of, DatetimeOf, DurationOf, PlainLiteral, BitVecLiteral, BoolLiteral}
use Rattle.law_terms.specs.Plain.{EntityLiteral, ExtensionLiteral, StringLiteral, PlainTerm, LiteralTerm}
use Rattle.law_terms.specs.Parts.{attribute_names}

-- a type by itself: a width is from 1 to 128, and attributes ascend strictly by their bytes
abbrev pub IsFormedHere : PlainType → Type 0
IsFormedHere (BitVecType n) = (1 ≤ n) × (n ≤ 128)
IsFormedHere (RecordType x) = IsTrue (ascends text_cmp (attribute_names x))
IsFormedHere t = ⊤

-- the type and all types inside it are formed
abbrev pub IsFormedType : PlainType → Type 0
IsFormedType t = AllByRecursion IsFormedHere (types_within t)

-- a value within the range of its extension type
abbrev pub IsFormedExtension : PlainExtension → Type 0
IsFormedExtension (DecimalOf z) = IsExtension DecimalKind (DecimalOf z)
IsFormedExtension (Ipv4Of a p) = IsExtension IpAddrKind (Ipv4Of a p)
IsFormedExtension (Ipv6Of a p) = IsExtension IpAddrKind (Ipv6Of a p)
IsFormedExtension (DatetimeOf z) = IsExtension DatetimeKind (DatetimeOf z)
IsFormedExtension (DurationOf z) = IsExtension DurationKind (DurationOf z)

-- a number below 2 to the width, a text in UTF-8, a value within the range of its extension type
abbrev pub IsFormedLiteral : PlainLiteral → Type 0
IsFormedLiteral (BitVecLiteral n a) = a < 2 ^ n
IsFormedLiteral (BoolLiteral b) = ⊤
IsFormedLiteral (EntityLiteral e i) = IsUtf8 i
IsFormedLiteral (ExtensionLiteral x) = IsFormedExtension x
IsFormedLiteral (StringLiteral s) = IsUtf8 s

-- a term by itself: where it is a literal, the literal is formed
abbrev pub IsFormedNode : PlainTerm → Type 0
IsFormedNode (LiteralTerm l) = IsFormedLiteral l
IsFormedNode t = ⊤

-- What the program's types keep of every term, and typing does not ask: the literals in the term and the types of all its subterms
-- are formed.
pub record IsFormed (t : PlainTerm) : Type 0 where
  pub literals : AllByRecursion IsFormedNode (subterms t)
  pub types : AllByRecursion (λ u. IsFormedType (type_of u)) (subterms t)
