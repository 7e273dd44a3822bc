-- How lines and the bodies of definitions are written, from the names and the texts of their parts. What is written for
-- terms one after the other and what an entry of a table has as its own lines are both made of these.
use Rattle.std.specs.Prelude.{ℕ, suc, ◌-◌, ◌^◌, codes, List, [], ◌∷◌, ◌++◌, Option, Some, None}
use Rattle.law_texts.specs.Quoting.{quoted_id}
use Rattle.law_numbers.specs.BitVectors.{bits_of}
use Rattle.law_terms.specs.Plain.{ExtensionKind, IpAddrKind, DecimalKind, DatetimeKind, DurationKind, ExtensionOp, DatetimeOfBitVecOp}
use Rattle.law_terms.specs.Plain.{DatetimeValOp, DecimalValOp, DurationOfBitVecOp, DurationValOp, IpAddrV4Op, IpAddrV6Op, IpIsV4Op}
use Rattle.law_terms.specs.Plain.{IpPrefixV4Op, IpPrefixV6Op, PatternPart, PlainOp, EqOp, ExtOp, StringLikeOp, ZeroExtendOp, PlainExtension}
use Rattle.law_terms.specs.Plain.{DecimalOf, Ipv4Of, Ipv6Of, DatetimeOf, DurationOf}
use Rattle.law_texts.specs.Reading.{Expression, Leaf}
use Rattle.law_texts.specs.Lexicon.{Number}
use Rattle.law_scripts.specs.Meanings.{as_sort, indexed_name}
use Rattle.law_scripts.specs.ScriptOperators.{script_name}
use Rattle.law_scripts.specs.WrittenStrings.{pattern_expr}
use Rattle.law_scripts.specs.Script.{name, group}
use Rattle.law_scripts.specs.Sorts.{string_sort, bit_sort, option_sort}
use Rattle.law_scripts.specs.CommandLines.{bits}
use Rattle.law_lines.specs.EntryNames.{member_name, attribute_name, id_name, kind_name, v4_name, v6_name, selector_name}
use Rattle.law_lines.specs.TermTexts.{string_text}
use Rattle.law_lines.specs.Line.{Constructor, Bare, Fielded, Line, Comment, DeclareDatatype, DeclareConst, DeclareFun}
use Rattle.law_texts.specs.LineTexts.{comma_separated}

-- ---- types

-- constructors without fields, numbered from a place on
abbrev pub member_constructors : (type : List ℕ) → ℕ → List (List ℕ) → List Constructor
member_constructors type place [] = []
member_constructors type place (m ∷ ms) = Bare (member_name type place) ∷ member_constructors type (suc place) ms

-- of an enum type one for each member, of another the type's own
abbrev pub entity_constructors : (members : Option (List (List ℕ))) → (type : List ℕ) → List Constructor
entity_constructors None type = Fielded type ((id_name type, string_sort) ∷ []) ∷ []
entity_constructors (Some members) type = member_constructors type 0 members

-- selectors of these sorts, numbered from a place on
abbrev pub attribute_selectors : (type : List ℕ) → ℕ → List Expression → List (List ℕ × Expression)
attribute_selectors type place [] = []
attribute_selectors type place (sort ∷ sorts) = (attribute_name type place, sort) ∷ attribute_selectors type (suc place) sorts

-- an entity type: its name and its members in a comment, and its datatype
abbrev pub entity_lines : (members : Option (List (List ℕ))) → (type sort : List ℕ) → List Line
entity_lines None type sort =
    Comment type ∷ DeclareDatatype sort [] (entity_constructors None sort) ∷ []
entity_lines (Some members) type sort =
    Comment (type ++ (codes "::[" ++ (comma_separated members ++ codes "]")))
    ∷ DeclareDatatype sort [] (entity_constructors (Some members) sort) ∷ []

-- a record type: its attributes in a comment, and its datatype
abbrev pub record_lines : (attributes : List (List ℕ)) → (sort : List ℕ) → List Expression → List Line
record_lines attributes sort sorts =
    Comment (codes "{" ++ (comma_separated attributes ++ codes "}"))
    ∷ DeclareDatatype sort [] (Fielded sort (attribute_selectors sort 0 sorts) ∷ []) ∷ []

-- the constructors of an extension type's datatype, with their selectors
abbrev pub kind_constructors : ExtensionKind → List Constructor
kind_constructors IpAddrKind =
    Fielded v4_name ((selector_name IpAddrV4Op, bit_sort 32) ∷ (selector_name IpPrefixV4Op, option_sort (bit_sort 5)) ∷ [])
    ∷ Fielded v6_name ((selector_name IpAddrV6Op, bit_sort 128) ∷ (selector_name IpPrefixV6Op, option_sort (bit_sort 7)) ∷ []) ∷ []
kind_constructors DecimalKind = Fielded (kind_name DecimalKind) ((selector_name DecimalValOp, bit_sort 64) ∷ []) ∷ []
kind_constructors DatetimeKind = Fielded (kind_name DatetimeKind) ((selector_name DatetimeValOp, bit_sort 64) ∷ []) ∷ []
kind_constructors DurationKind = Fielded (kind_name DurationKind) ((selector_name DurationValOp, bit_sort 64) ∷ []) ∷ []

-- an extension type: its datatype
abbrev pub kind_lines : ExtensionKind → (sort : List ℕ) → List Line
kind_lines kind sort = DeclareDatatype sort [] (kind_constructors kind) ∷ []

-- ---- functions and variables

-- the id of a function in a comment, before the lines of its types
abbrev pub function_heading : (id : List ℕ) → List Line
function_heading id = Comment id ∷ []

-- the declaration of a function, behind the lines of its types
abbrev pub function_declaration : (name : List ℕ) → (argument sort : Expression) → List Line
function_declaration n argument sort = DeclareFun n argument sort ∷ []

-- a variable: its id in a comment, and its declaration
abbrev pub variable_lines : (id name : List ℕ) → (sort : Expression) → List Line
variable_lines id n sort = Comment (quoted_id id) ∷ DeclareConst n sort ∷ []

-- ---- options, sets and records

-- `(some e)`
abbrev pub some_body : Expression → Expression
some_body e = group (name (codes "some") ∷ e ∷ [])

-- `(as none sort)`
abbrev pub none_body : (sort : Expression) → Expression
none_body sort = as_sort (codes "none") sort

-- `(as set.empty sort)`
abbrev pub empty_set : (sort : Expression) → Expression
empty_set sort = as_sort (codes "set.empty") sort

-- elements put into the empty set
abbrev pub set_body : (sort : Expression) → List Expression → Expression
set_body sort [] = empty_set sort
set_body sort (e ∷ es) = group (name (codes "set.insert") ∷ e ∷ (es ++ empty_set sort ∷ []))

-- the constructor of a record type at its fields, by its name alone where there are none
abbrev pub record_body : (sort : Expression) → List Expression → Expression
record_body sort [] = sort
record_body sort (e ∷ es) = group (sort ∷ e ∷ es)

-- ---- literals

-- an entity of a type that is no enum type: the type's constructor at the id
abbrev pub entity_body : (sort id : List ℕ) → Expression
entity_body sort id = group (name sort ∷ string_text id ∷ [])

-- the prefix of a range
abbrev pub prefix_body : (width : ℕ) → Option ℕ → Expression
prefix_body width (Some p) = some_body (bits width p)
prefix_body width None = none_body (option_sort (bit_sort width))

-- a value of an extension type
abbrev pub extension_body : PlainExtension → Expression
extension_body (DecimalOf x) = group (name (kind_name DecimalKind) ∷ bits 64 (bits_of 64 x) ∷ [])
extension_body (Ipv4Of a p) = group (name v4_name ∷ bits 32 a ∷ prefix_body 5 p ∷ [])
extension_body (Ipv6Of a p) = group (name v6_name ∷ bits 128 a ∷ prefix_body 7 p ∷ [])
extension_body (DatetimeOf x) = group (name (kind_name DatetimeKind) ∷ bits 64 (bits_of 64 x) ∷ [])
extension_body (DurationOf x) = group (name (kind_name DurationKind) ∷ bits 64 (bits_of 64 x) ∷ [])

-- ---- applications

-- the constructor or the selector that an operator of an extension type is, or the test of the family of a range
abbrev pub extension_op_head : ExtensionOp → Expression
extension_op_head DatetimeOfBitVecOp = name (kind_name DatetimeKind)
extension_op_head DurationOfBitVecOp = name (kind_name DurationKind)
extension_op_head IpIsV4Op = indexed_name (codes "is") (name v4_name)
extension_op_head op = name (selector_name op)

-- What an application begins with, where no table has its name: those of functions and of attributes are in tables.
abbrev pub operator_head : PlainOp → Expression
operator_head (ExtOp op) = extension_op_head op
operator_head (ZeroExtendOp k) = indexed_name (script_name (ZeroExtendOp k)) (Leaf (Number k))
operator_head op = name (script_name op)

-- A pattern stands behind the arguments; where there are none, their empty text stands before it.
abbrev pub with_pattern : List PatternPart → List Expression → List Expression
with_pattern p [] = name [] ∷ pattern_expr p ∷ []
with_pattern p (e ∷ es) = e ∷ (es ++ pattern_expr p ∷ [])

-- what stands behind the head of an application
abbrev pub operands : PlainOp → List Expression → List Expression
operands (StringLikeOp p) es = with_pattern p es
operands op es = es

-- the head of an application and its operands
abbrev pub application_body : (head : Expression) → PlainOp → List Expression → Expression
application_body head op es = group (head ∷ operands op es)

-- the equality of an operand with the least number of its width
abbrev pub least_body : (width : ℕ) → List Expression → Expression
least_body width es = application_body (operator_head EqOp) EqOp (es ++ bits width (2 ^ (width - 1)) ∷ [])
