-- The names of entries, and those of constructors and selectors.
use Rattle.std.specs.Prelude.{ℕ, suc, if◌then◌else◌, bytes_eq, codes, List, [], ◌∷◌, ◌++◌}
use Rattle.law_terms.specs.Plain.{ExtensionKind, IpAddrKind, DecimalKind, DatetimeKind, DurationKind, PlainType, ExtensionType, RecordType}
use Rattle.law_terms.specs.Plain.{ExtensionOp, DatetimeValOp, DecimalValOp, DurationValOp, IpAddrV4Op, IpAddrV6Op, IpPrefixV4Op}
use Rattle.law_terms.specs.Plain.{IpPrefixV6Op}
use Rattle.law_scripts.specs.Numerals.{numbered}

-- ---- names of entries, a letter and the place of the entry in its table

-- the name under which a term is declared or defined
abbrev pub stated_term_name : ℕ → List ℕ
stated_term_name place = numbered (codes "t") place

-- the name of a declared function
abbrev pub stated_function_name : ℕ → List ℕ
stated_function_name place = numbered (codes "f") place

-- the datatype of an entity type
abbrev pub stated_entity_name : ℕ → List ℕ
stated_entity_name place = numbered (codes "E") place

-- the datatype of a record type
abbrev pub stated_record_name : ℕ → List ℕ
stated_record_name place = numbered (codes "R") place

-- ---- names of constructors and selectors

-- the constructor of a member of an enum type, by the member's place
abbrev pub member_name : (type : List ℕ) → ℕ → List ℕ
member_name type place = type ++ numbered (codes "_m") place

-- the selector of an attribute, by the attribute's place
abbrev pub attribute_name : (type : List ℕ) → ℕ → List ℕ
attribute_name type place = type ++ numbered (codes "_a") place

-- the selector of the id of an entity
abbrev pub id_name : (type : List ℕ) → List ℕ
id_name type = type ++ codes "_eid"

-- the place of the first text that is the same; past the last where there is none
abbrev pub place_of : List ℕ → List (List ℕ) → ℕ
place_of text [] = 0
place_of text (x ∷ xs) = if bytes_eq text x then 0 else suc (place_of text xs)

-- the constructor of a member of an enum type
abbrev pub enum_member : (members : List (List ℕ)) → (sort id : List ℕ) → List ℕ
enum_member members sort id = member_name sort (place_of id members)

-- the datatype of an extension type, which is its constructor too where it has one alone
abbrev pub kind_name : ExtensionKind → List ℕ
kind_name IpAddrKind = codes "IPAddr"
kind_name DecimalKind = codes "Decimal"
kind_name DatetimeKind = codes "Datetime"
kind_name DurationKind = codes "Duration"

-- the name of the datatype of a type that has an entry, by the entry's place: that of an extension type is its kind's
abbrev pub stated_type_name : PlainType → ℕ → List ℕ
stated_type_name (ExtensionType kind) place = kind_name kind
stated_type_name (RecordType x) place = stated_record_name place
stated_type_name t place = stated_entity_name place

-- the constructor of ranges of IP addresses of version 4
abbrev pub v4_name : List ℕ
v4_name = codes "V4"

-- the constructor of ranges of version 6
abbrev pub v6_name : List ℕ
v6_name = codes "V6"

-- the selector of a part of a value of an extension type, where the operator is one
abbrev pub selector_name : ExtensionOp → List ℕ
selector_name DecimalValOp = codes "decimalVal"
selector_name DatetimeValOp = codes "datetimeVal"
selector_name DurationValOp = codes "durationVal"
selector_name IpAddrV4Op = codes "addrV4"
selector_name IpAddrV6Op = codes "addrV6"
selector_name IpPrefixV4Op = codes "prefixV4"
selector_name IpPrefixV6Op = codes "prefixV6"
selector_name op = []
