-- The printed texts of terms and of literals.
use Rattle.std.specs.Prelude.{ℕ, ℤ, if◌then◌else◌, ◌==◌, List, [], ◌∷◌, ◌++◌, codes}
use Rattle.std.specs.Char.{encode_utf8}
use Rattle.std.specs.Fmt.{decimal, signed_decimal}
use Rattle.std.specs.List.{flat_map}
use Rattle.std.specs.Str.{chars}
use Rattle.law_texts.specs.Quoting.{quoted_id_byte}
use Rattle.smt_ext.specs.IpPrinted.{range_text}
use Rattle.smt_ext.specs.IpRanges.{Version4, Version6}
use Rattle.smt_ext.specs.Printed.{decimal_text}
use Rattle.law_terms.specs.Names.{extension_op_name, op_name}
use Rattle.law_terms.specs.Plain.{PlainExtension, DecimalOf, Ipv4Of, Ipv6Of, DatetimeOf, DurationOf, PatternPart, Character, Wildcard}
use Rattle.law_terms.specs.Plain.{PlainOp, ExtOp, RecordGetOp, StringLikeOp, UufOp, PlainLiteral, BitVecLiteral, BoolLiteral, EntityLiteral}
use Rattle.law_terms.specs.Plain.{ExtensionLiteral, StringLiteral, PlainTerm, Application, NoneTerm, LiteralTerm, RecordTerm, SetTerm}
use Rattle.law_terms.specs.Plain.{SomeTerm, VariableTerm, PlainTerms, no_terms, one_term, PlainFields, no_fields, one_field}
use Rattle.law_texts.specs.LineTexts.{comma_separated}

-- ---- ids and patterns

-- a character of an id or of a pattern: the apostrophe behind a backslash, and any other as in the ids of comments
abbrev pub character_text : ℕ → List ℕ
character_text c = if c == 39 then codes "\\'" else flat_map quoted_id_byte (encode_utf8 c)

-- the text of an entity: `T::"id"`
abbrev pub entity_text : (type id : List ℕ) → List ℕ
entity_text type id = type ++ (codes "::\"" ++ (flat_map character_text (chars id) ++ codes "\""))

-- the text of a part of a pattern: a wildcard is a star, and the character star stands behind a backslash
abbrev pub part_text : PatternPart → List ℕ
part_text (Character c) = if c == 42 then codes "\\*" else character_text c
part_text Wildcard = codes "*"

-- ---- literals

-- the text of a duration by its number of milliseconds: `duration("5ms")`
abbrev pub duration_text : ℤ → List ℕ
duration_text v = codes "duration(\"" ++ (signed_decimal v ++ codes "ms\")")

-- the text of a value of an extension type: a decimal and an IP range by their own texts, and a datetime by how far it is from 1970
abbrev pub extension_text : PlainExtension → List ℕ
extension_text (DecimalOf v) = codes "decimal(\"" ++ (decimal_text v ++ codes "\")")
extension_text (Ipv4Of a p) = codes "ip(\"" ++ (range_text (record { family = Version4; address = a; prefix = p }) ++ codes "\")")
extension_text (Ipv6Of a p) = codes "ip(\"" ++ (range_text (record { family = Version6; address = a; prefix = p }) ++ codes "\")")
extension_text (DatetimeOf v) = codes "datetime(\"1970-01-01\").offset(" ++ (duration_text v ++ codes ")")
extension_text (DurationOf v) = duration_text v

-- the text of a literal: `(bv64 12)`, `true`, `T::"id"`, that of a value of an extension type, or a string between quotes as it is
abbrev pub literal_text : PlainLiteral → List ℕ
literal_text (BitVecLiteral w n) = codes "(bv" ++ (decimal w ++ (codes " " ++ (decimal n ++ codes ")")))
literal_text (BoolLiteral b) = if b then codes "true" else codes "false"
literal_text (EntityLiteral type id) = entity_text type id
literal_text (ExtensionLiteral x) = extension_text x
literal_text (StringLiteral s) = codes "\"" ++ (s ++ codes "\"")

-- ---- terms

-- the name by which an operator is printed: that of most is their own, and some have what they hold in it
abbrev pub printed_name : PlainOp → List ℕ
printed_name (ExtOp o) = extension_op_name o
printed_name (RecordGetOp x) = codes "getattr[\"" ++ (x ++ codes "\"]")
printed_name (StringLikeOp p) = codes "like[\"" ++ (flat_map part_text p ++ codes "\"]")
printed_name (UufOp f) = f.id
printed_name o = op_name o

-- the text of a field: `x: t`
abbrev pub field_text : (attribute text : List ℕ) → List ℕ
field_text attribute text = attribute ++ (codes ": " ++ text)

-- the text of a record: `{ x: t, y: u }`, or `{}` where it has no fields
abbrev pub record_text : (fields : List (List ℕ)) → List ℕ
record_text [] = codes "{}"
record_text (x ∷ xs) = codes "{ " ++ (comma_separated (x ∷ xs) ++ codes " }")

-- the text of an application: `name(t, u)`
abbrev pub application_text : (name : List ℕ) → (arguments : List (List ℕ)) → List ℕ
application_text name arguments = name ++ (codes "(" ++ (comma_separated arguments ++ codes ")"))

abbrev mutual
  -- the printed text of a term
  pub term_text : PlainTerm → List ℕ
  term_text (Application o ts type) = application_text (printed_name o) (term_texts ts)
  term_text (NoneTerm type) = codes "None"
  term_text (LiteralTerm l) = literal_text l
  term_text (RecordTerm fs) = record_text (field_texts fs)
  term_text (SetTerm element ts) = codes "[" ++ (comma_separated (term_texts ts) ++ codes "]")
  term_text (SomeTerm t) = codes "Some(" ++ (term_text t ++ codes ")")
  term_text (VariableTerm id type) = id

  -- the printed texts of terms, in order
  pub term_texts : PlainTerms → List (List ℕ)
  term_texts no_terms = []
  term_texts (one_term t ts) = term_text t ∷ term_texts ts

  -- the printed texts of fields, in order
  pub field_texts : PlainFields → List (List ℕ)
  field_texts no_fields = []
  field_texts (one_field x t fs) = field_text x (term_text t) ∷ field_texts fs
