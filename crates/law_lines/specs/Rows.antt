-- Terms, and the bytes that are written for them.
use Rattle.std.specs.Prelude.{◌≡◌, ℕ, codes, true, List, [], ◌∷◌, ◌++◌}
use Rattle.law_numbers.specs.BitOperators.{BvlshrOp, BvshlOp, BvsltOp}
use Rattle.law_terms.specs.Plain.{IpAddrKind, DatetimeKind, PlainType, BitVecType, BoolType, EntityType, ExtensionType, StringType}
use Rattle.law_terms.specs.Plain.{RecordType, SetType, no_attributes, attribute, IpAddrV4Op, IpIsV4Op, DatetimeValOp, Character, Wildcard}
use Rattle.law_terms.specs.Plain.{PlainOp, AndOp, EqOp, ExtOp, NotOp, RecordGetOp, SetMemberOp, StringLikeOp, UufOp, BitVecLiteral}
use Rattle.law_terms.specs.Plain.{BoolLiteral, EntityLiteral, StringLiteral, PlainTerm, Application, LiteralTerm, RecordTerm, VariableTerm}
use Rattle.law_terms.specs.Plain.{no_terms, one_term, no_fields, BitsOp, TestOp}
use Rattle.law_terms.specs.TypeValues.{Enums}
use Rattle.law_lines.specs.Lines.{PushCall, PopCall, EncodeCall}
use Rattle.law_lines.specs.Text.{text, text_of_calls}
use Rattle.law_scripts.specs.Written.{option_lines}

-- a Boolean variable
abbrev pub bool_variable : List ℕ → PlainTerm
bool_variable id = VariableTerm id BoolType

-- an operator of one argument
abbrev pub unary : PlainOp → PlainTerm → PlainType → PlainTerm
unary op t type = Application op (one_term t no_terms) type

-- an operator of two arguments
abbrev pub binary : PlainOp → PlainTerm → PlainTerm → PlainType → PlainTerm
binary op t u type = Application op (one_term t (one_term u no_terms)) type

-- a literal of a width
abbrev pub number : ℕ → ℕ → PlainTerm
number width n = LiteralTerm (BitVecLiteral width n)

-- the negation of a variable
abbrev pub not_b : PlainTerm
not_b = unary NotOp (bool_variable (codes "b")) BoolType

-- for no term the datatype of options alone is written
abbrev pub NoTerm : Type 0
NoTerm = text [] [] ≡ option_lines

-- a literal is written in its assertion
abbrev pub TrueTerm : Type 0
TrueTerm = text [] (LiteralTerm (BoolLiteral true) ∷ []) ≡ option_lines ++ codes "(assert true)\n"

-- a variable and its negation are written under two names, and the last is asserted
abbrev pub Negation : Type 0
Negation = text [] (not_b ∷ []) ≡ option_lines ++ codes "; \"b\"\n(declare-const t0 Bool)\n(define-fun t1 () Bool (not t0))\n(assert t1)\n"

-- a term that stands twice is written once and asserted twice
abbrev pub Repeated : Type 0
Repeated =
    text [] (not_b ∷ not_b ∷ [])
    ≡ option_lines ++ codes "; \"b\"\n(declare-const t0 Bool)\n(define-fun t1 () Bool (not t0))\n(assert t1)\n(assert t1)\n"

-- the equality of a variable of 8 bits with 0
abbrev pub x_is_zero : PlainTerm
x_is_zero = binary EqOp (VariableTerm (codes "x") (BitVecType 8)) (number 8 0) BoolType

-- two variables of one id, but of two types, are declared under two names
abbrev pub TwoOfOneId : Type 0
TwoOfOneId = text [] (bool_variable (codes "x") ∷ x_is_zero ∷ [])
    ≡ option_lines ++ codes "; \"x\"\n(declare-const t0 Bool)\n; \"x\"\n(declare-const t1 (_ BitVec 8))\n"
    ++ codes "(define-fun t2 () Bool (= t1 (_ bv0 8)))\n(assert t0)\n(assert t2)\n"

-- an attribute with CR in its name
abbrev pub split_attribute : List ℕ
split_attribute = codes "a\rb"

-- `record.get` of an attribute with CR in its name
abbrev pub record_term : PlainTerm
record_term =
    unary (RecordGetOp split_attribute) (VariableTerm (codes "r") (RecordType (attribute split_attribute BoolType no_attributes))) BoolType

-- a record type: in the comment CR becomes a space, and the attribute has the selector of its place
abbrev pub RecordOfOne : Type 0
RecordOfOne = text [] (record_term ∷ [])
    ≡ option_lines ++ codes "; {a b}\n(declare-datatype R0 (\n  (R0 (R0_a0 Bool))))\n; \"r\"\n(declare-const t0 R0)\n"
    ++ codes "(define-fun t1 () Bool (R0_a0 t0))\n(assert t1)\n"

-- the enum type `Color` with two members
abbrev pub colors : Enums
colors = (codes "Color", codes "a" ∷ codes "b" ∷ []) ∷ []

-- the equality of a variable with the second member of the enum type
abbrev pub color_term : PlainTerm
color_term =
    binary EqOp (VariableTerm (codes "c") (EntityType (codes "Color"))) (LiteralTerm (EntityLiteral (codes "Color") (codes "b"))) BoolType

-- a member of an enum type is a constructor, for which a number is counted and no line written
abbrev pub EnumMember : Type 0
EnumMember = text colors (color_term ∷ [])
    ≡ option_lines ++ codes "; Color::[a, b]\n(declare-datatype E0 (\n  (E0_m0)\n  (E0_m1)))\n; \"c\"\n(declare-const t0 E0)\n"
    ++ codes "(define-fun t2 () Bool (= t0 E0_m1))\n(assert t2)\n"

-- a shift by 2 to the 32 places
abbrev pub Shifted : Type 0
Shifted = text [] (binary EqOp (binary (BitsOp BvshlOp) (number 64 1) (number 64 4294967296) (BitVecType 64)) (number 64 0) BoolType ∷ [])
    ≡ option_lines ++ codes "(define-fun t0 () (_ BitVec 64) (bvshl (_ bv1 64) (_ bv4294967296 64)))\n"
    ++ codes "(define-fun t1 () Bool (= t0 (_ bv0 64)))\n(assert t1)\n"

-- a record type without attributes: its constructor has a space behind it where it is declared, and is the record's text
abbrev pub EmptyRecord : Type 0
EmptyRecord = text [] (binary EqOp (VariableTerm (codes "r") (RecordType no_attributes)) (RecordTerm no_fields) BoolType ∷ [])
    ≡ option_lines ++ codes "; {}\n(declare-datatype R0 (\n  (R0 )))\n; \"r\"\n(declare-const t0 R0)\n(define-fun t1 () R0 R0)\n"
    ++ codes "(define-fun t2 () Bool (= t0 t1))\n(assert t2)\n"

-- ---- a condition on a request

-- the entity type `User`
abbrev pub user : PlainType
user = EntityType (codes "User")

-- the record type of a user's attributes
abbrev pub attributes_of_user : PlainType
attributes_of_user = RecordType (attribute (codes "dept") StringType (attribute (codes "joined") (ExtensionType DatetimeKind)
    (attribute (codes "src") (ExtensionType IpAddrKind) no_attributes)))

-- the principal of the request
abbrev pub principal : PlainTerm
principal = VariableTerm (codes "principal") user

-- the attributes of the principal, which a function gives
abbrev pub user_attributes : PlainTerm
user_attributes =
    unary (UufOp (record { id = codes "attrs[User]"; argument = user; output = attributes_of_user })) principal attributes_of_user

-- the tags of the principal, which a function gives
abbrev pub user_tags : PlainTerm
user_tags = unary (UufOp (record { id = codes "tags[User]"; argument = user; output = SetType StringType })) principal (SetType StringType)

-- the IP address of the principal
abbrev pub source : PlainTerm
source = unary (RecordGetOp (codes "src")) user_attributes (ExtensionType IpAddrKind)

-- the department of the principal begins with `eng`
abbrev pub in_engineering : PlainTerm
in_engineering = unary (StringLikeOp (Character 101 ∷ Character 110 ∷ Character 103 ∷ Wildcard ∷ []))
    (unary (RecordGetOp (codes "dept")) user_attributes StringType) BoolType

-- the principal has the tag `vpn`
abbrev pub has_vpn : PlainTerm
has_vpn = binary SetMemberOp (LiteralTerm (StringLiteral (codes "vpn"))) user_tags BoolType

-- the IP address of the principal is of version 4, and its first byte is 10
abbrev pub from_ten : PlainTerm
from_ten = binary AndOp (unary (ExtOp IpIsV4Op) source BoolType)
    (binary EqOp (binary (BitsOp BvlshrOp) (unary (ExtOp IpAddrV4Op) source (BitVecType 32)) (number 32 24) (BitVecType 32)) (number 32 10)
    BoolType)
    BoolType

-- the principal joined before the 15th of October 2024
abbrev pub joined_early : PlainTerm
joined_early =
    binary (TestOp BvsltOp)
    (unary (ExtOp DatetimeValOp) (unary (RecordGetOp (codes "joined")) user_attributes (ExtensionType DatetimeKind)) (BitVecType 64))
    (number 64 1728950400000) BoolType

-- four conditions on the principal of a request
abbrev pub condition : List PlainTerm
condition = in_engineering ∷ has_vpn ∷ from_ten ∷ joined_early ∷ []

-- the bytes that are written for these conditions, behind the datatype of options
abbrev pub condition_lines : List ℕ
condition_lines =
    codes "(declare-datatype Datetime (\n  (Datetime (datetimeVal (_ BitVec 64)))))\n"
    ++ codes "(declare-datatype IPAddr (\n  (V4 (addrV4 (_ BitVec 32)) (prefixV4 (Option (_ BitVec 5))))\n"
    ++ codes "  (V6 (addrV6 (_ BitVec 128)) (prefixV6 (Option (_ BitVec 7))))))\n; {dept, joined, src}\n"
    ++ codes "(declare-datatype R2 (\n  (R2 (R2_a0 String) (R2_a1 Datetime) (R2_a2 IPAddr))))\n; User\n"
    ++ codes "(declare-datatype E3 (\n  (E3 (E3_eid String))))\n; \"principal\"\n(declare-const t0 E3)\n"
    ++ codes "; attrs[User]\n(declare-fun f0 (E3) R2)\n(define-fun t1 () R2 (f0 t0))\n" ++ codes "(define-fun t2 () String (R2_a0 t1))\n"
    ++ codes "(define-fun t3 () Bool (str.in_re t2 (re.++ (str.to_re \"e\") (str.to_re \"n\") (str.to_re \"g\") "
    ++ codes "(re.* re.allchar))))\n; tags[User]\n(declare-fun f1 (E3) (Set String))\n"
    ++ codes "(define-fun t4 () (Set String) (f1 t0))\n(define-fun t5 () Bool (set.member \"vpn\" t4))\n"
    ++ codes "(define-fun t6 () IPAddr (R2_a2 t1))\n(define-fun t7 () Bool ((_ is V4) t6))\n"
    ++ codes "(define-fun t8 () (_ BitVec 32) (addrV4 t6))\n" ++ codes "(define-fun t9 () (_ BitVec 32) (bvlshr t8 (_ bv24 32)))\n"
    ++ codes "(define-fun t10 () Bool (= t9 (_ bv10 32)))\n(define-fun t11 () Bool (and t7 t10))\n"
    ++ codes "(define-fun t12 () Datetime (R2_a1 t1))\n(define-fun t13 () (_ BitVec 64) (datetimeVal t12))\n"
    ++ codes "(define-fun t14 () Bool (bvslt t13 (_ bv1728950400000 64)))\n(assert t3)\n(assert t5)\n"
    ++ codes "(assert t11)\n(assert t14)\n"

-- Types are counted together, what a type needs is declared before it, and what stands several times is written once.
abbrev pub Condition : Type 0
Condition = text [] condition ≡ option_lines ++ condition_lines

-- ---- characters that end a line

-- CR and LF in the id of a variable do not end the comment
abbrev pub HostileVariable : Type 0
HostileVariable = text [] (bool_variable (codes "x\r\n(assert false)") ∷ [])
    ≡ option_lines ++ codes "; \"x\\r\\n(assert false)\"\n(declare-const t0 Bool)\n(assert t0)\n"

-- LF in the id of a function becomes a space
abbrev pub HostileFunction : Type 0
HostileFunction =
    text [] (unary (UufOp (record { id = codes "f\n(check-sat)"; argument = BoolType; output = BoolType })) (LiteralTerm (BoolLiteral true))
    BoolType ∷ [])
    ≡ option_lines ++ codes "; f (check-sat)\n(declare-fun f0 (Bool) Bool)\n(define-fun t0 () Bool (f0 true))\n(assert t0)\n"

-- ---- levels

-- what was written behind a push is forgotten at its pop, and its number is given again
abbrev pub Levels : Type 0
Levels =
    text_of_calls [] (EncodeCall (bool_variable (codes "b") ∷ []) ∷ PushCall ∷ EncodeCall (not_b ∷ []) ∷ PopCall
    ∷ EncodeCall (bool_variable (codes "c") ∷ []) ∷ [])
    ≡ option_lines ++ codes "; \"b\"\n(declare-const t0 Bool)\n(assert t0)\n(push 1)\n(define-fun t1 () Bool (not t0))\n"
    ++ codes "(assert t1)\n(pop 1)\n; \"c\"\n(declare-const t1 Bool)\n(assert t1)\n"
