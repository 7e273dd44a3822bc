-- Terms with every operator, type and literal, and the bytes that are written for them.
use Rattle.std.specs.Prelude.{◌≡◌, pos, negsuc, codes, Some, None, List, [], ◌∷◌, ◌++◌}
use Rattle.law_numbers.specs.BitOperators.{BvaddOp, BvlshrOp, BvmulOp, BvsdivOp, BvshlOp, BvsmodOp, BvsremOp, BvsubOp, BvudivOp, BvuremOp}
use Rattle.law_numbers.specs.BitOperators.{BvsleOp, BvsltOp, BvuleOp, BvultOp, BvsaddoOp, BvsmuloOp, BvssuboOp}
use Rattle.law_terms.specs.Plain.{PlainTerm, IpAddrKind, DecimalKind, DatetimeKind, DurationKind, OptionType, BitVecType, BoolType}
use Rattle.law_terms.specs.Plain.{EntityType, ExtensionType, StringType, RecordType, SetType, no_attributes, attribute, DatetimeOfBitVecOp}
use Rattle.law_terms.specs.Plain.{DatetimeValOp, DecimalValOp, DurationOfBitVecOp, DurationValOp, IpAddrV4Op, IpAddrV6Op, IpIsV4Op}
use Rattle.law_terms.specs.Plain.{IpPrefixV4Op, IpPrefixV6Op, Character, Wildcard, AndOp, BvnegOp, BvnegoOp, EqOp, ExtOp, IteOp, NotOp}
use Rattle.law_terms.specs.Plain.{OptionGetOp, OrOp, RecordGetOp, SetInterOp, SetMemberOp, SetSubsetOp, StringLikeOp, UufOp, ZeroExtendOp}
use Rattle.law_terms.specs.Plain.{DecimalOf, Ipv4Of, Ipv6Of, DatetimeOf, DurationOf, BitVecLiteral, EntityLiteral, ExtensionLiteral}
use Rattle.law_terms.specs.Plain.{StringLiteral, Application, NoneTerm, LiteralTerm, RecordTerm, SetTerm, SomeTerm, VariableTerm, no_terms}
use Rattle.law_terms.specs.Plain.{one_term, no_fields, one_field, BitsOp, TestOp, OverflowOp}
use Rattle.law_terms.specs.TypeValues.{Enums}
use Rattle.law_lines.specs.Text.{text}

-- the enum type `Color` with two members
abbrev pub enums : Enums
enums = ((codes "Color"), (codes "a") ∷ (codes "b") ∷ []) ∷ []

-- `not`, `and` and `or`
abbrev pub term_0 : PlainTerm
term_0 =
    (Application OrOp
    (one_term (Application NotOp (one_term (VariableTerm (codes "p") BoolType) no_terms) BoolType) (one_term
    (Application AndOp (one_term (VariableTerm (codes "p") BoolType) (one_term (VariableTerm (codes "q") BoolType) no_terms)) BoolType)
    no_terms))
    BoolType)

-- `ite`, `bvneg` and `=`
abbrev pub term_1 : PlainTerm
term_1 =
    (Application EqOp
    (one_term
    (Application IteOp
    (one_term (VariableTerm (codes "p") BoolType)
    (one_term (VariableTerm (codes "x") (BitVecType 64)) (one_term (VariableTerm (codes "y") (BitVecType 64)) no_terms)))
    (BitVecType 64))
    (one_term (Application BvnegOp (one_term (VariableTerm (codes "x") (BitVecType 64)) no_terms) (BitVecType 64)) no_terms))
    BoolType)

-- a function of an entity whose id has a quote in it
abbrev pub term_2 : PlainTerm
term_2 =
    (Application (UufOp (record { id = (codes "f"); argument = (EntityType (codes "User")); output = BoolType }))
    (one_term (LiteralTerm (EntityLiteral (codes "User") (codes "al\"ice"))) no_terms) BoolType)

-- `bvadd`, `bvsub` and `bvslt`
abbrev pub term_3 : PlainTerm
term_3 =
    (Application (TestOp BvsltOp)
    (one_term
    (Application (BitsOp BvaddOp)
    (one_term (VariableTerm (codes "x") (BitVecType 64)) (one_term (VariableTerm (codes "y") (BitVecType 64)) no_terms)) (BitVecType 64))
    (one_term
    (Application (BitsOp BvsubOp)
    (one_term (VariableTerm (codes "x") (BitVecType 64)) (one_term (VariableTerm (codes "y") (BitVecType 64)) no_terms)) (BitVecType 64))
    no_terms))
    BoolType)

-- `bvmul`, `bvudiv` and `bvsle`
abbrev pub term_4 : PlainTerm
term_4 =
    (Application (TestOp BvsleOp)
    (one_term
    (Application (BitsOp BvmulOp)
    (one_term (VariableTerm (codes "x") (BitVecType 64)) (one_term (VariableTerm (codes "y") (BitVecType 64)) no_terms)) (BitVecType 64))
    (one_term
    (Application (BitsOp BvudivOp)
    (one_term (VariableTerm (codes "x") (BitVecType 64)) (one_term (VariableTerm (codes "y") (BitVecType 64)) no_terms)) (BitVecType 64))
    no_terms))
    BoolType)

-- `bvurem`, `bvsdiv` and `bvult`
abbrev pub term_5 : PlainTerm
term_5 =
    (Application (TestOp BvultOp)
    (one_term
    (Application (BitsOp BvuremOp)
    (one_term (VariableTerm (codes "x") (BitVecType 64)) (one_term (VariableTerm (codes "y") (BitVecType 64)) no_terms)) (BitVecType 64))
    (one_term
    (Application (BitsOp BvsdivOp)
    (one_term (VariableTerm (codes "x") (BitVecType 64)) (one_term (VariableTerm (codes "y") (BitVecType 64)) no_terms)) (BitVecType 64))
    no_terms))
    BoolType)

-- `bvsrem`, `bvsmod` and `bvule`
abbrev pub term_6 : PlainTerm
term_6 =
    (Application (TestOp BvuleOp)
    (one_term
    (Application (BitsOp BvsremOp)
    (one_term (VariableTerm (codes "x") (BitVecType 64)) (one_term (VariableTerm (codes "y") (BitVecType 64)) no_terms)) (BitVecType 64))
    (one_term
    (Application (BitsOp BvsmodOp)
    (one_term (VariableTerm (codes "x") (BitVecType 64)) (one_term (VariableTerm (codes "y") (BitVecType 64)) no_terms)) (BitVecType 64))
    no_terms))
    BoolType)

-- `bvshl` and `bvlshr`
abbrev pub term_7 : PlainTerm
term_7 =
    (Application EqOp
    (one_term
    (Application (BitsOp BvshlOp)
    (one_term (VariableTerm (codes "x") (BitVecType 64)) (one_term (VariableTerm (codes "y") (BitVecType 64)) no_terms)) (BitVecType 64))
    (one_term
    (Application (BitsOp BvlshrOp)
    (one_term (VariableTerm (codes "x") (BitVecType 64)) (one_term (VariableTerm (codes "y") (BitVecType 64)) no_terms)) (BitVecType 64))
    no_terms))
    BoolType)

-- `bvnego`, which is written as an equality with the least number of 64 bits
abbrev pub term_8 : PlainTerm
term_8 = (Application BvnegoOp (one_term (VariableTerm (codes "x") (BitVecType 64)) no_terms) BoolType)

-- `bvsaddo`
abbrev pub term_9 : PlainTerm
term_9 =
    (Application (OverflowOp BvsaddoOp)
    (one_term (VariableTerm (codes "x") (BitVecType 64)) (one_term (VariableTerm (codes "y") (BitVecType 64)) no_terms)) BoolType)

-- `bvssubo`
abbrev pub term_10 : PlainTerm
term_10 =
    (Application (OverflowOp BvssuboOp)
    (one_term (VariableTerm (codes "x") (BitVecType 64)) (one_term (VariableTerm (codes "y") (BitVecType 64)) no_terms)) BoolType)

-- `bvsmulo`
abbrev pub term_11 : PlainTerm
term_11 =
    (Application (OverflowOp BvsmuloOp)
    (one_term (VariableTerm (codes "x") (BitVecType 64)) (one_term (VariableTerm (codes "y") (BitVecType 64)) no_terms)) BoolType)

-- zero extension by 64 bits, and a literal of 128 bits
abbrev pub term_12 : PlainTerm
term_12 =
    (Application EqOp
    (one_term (Application (ZeroExtendOp 64) (one_term (VariableTerm (codes "x") (BitVecType 64)) no_terms) (BitVecType 128))
    (one_term (LiteralTerm (BitVecLiteral 128 5)) no_terms))
    BoolType)

-- `set.member`, and a string literal
abbrev pub term_13 : PlainTerm
term_13 =
    (Application SetMemberOp
    (one_term (LiteralTerm (StringLiteral (codes "a"))) (one_term (VariableTerm (codes "s") (SetType StringType)) no_terms)) BoolType)

-- `set.subset`, `set.inter`, and a set of two elements
abbrev pub term_14 : PlainTerm
term_14 =
    (Application SetSubsetOp
    (one_term
    (SetTerm StringType (one_term (LiteralTerm (StringLiteral (codes "a"))) (one_term (VariableTerm (codes "str") StringType) no_terms)))
    (one_term
    (Application SetInterOp
    (one_term (VariableTerm (codes "s") (SetType StringType)) (one_term (VariableTerm (codes "u") (SetType StringType)) no_terms))
    (SetType StringType))
    no_terms))
    BoolType)

-- a set variable and the empty set
abbrev pub term_15 : PlainTerm
term_15 =
    (Application EqOp (one_term (VariableTerm (codes "u") (SetType StringType)) (one_term (SetTerm StringType no_terms) no_terms)) BoolType)

-- `option.get`
abbrev pub term_16 : PlainTerm
term_16 = (Application OptionGetOp (one_term (VariableTerm (codes "o") (OptionType BoolType)) no_terms) BoolType)

-- some of a term
abbrev pub term_17 : PlainTerm
term_17 =
    (Application EqOp
    (one_term (SomeTerm (VariableTerm (codes "p") BoolType)) (one_term (VariableTerm (codes "o") (OptionType BoolType)) no_terms)) BoolType)

-- none of a type
abbrev pub term_18 : PlainTerm
term_18 = (Application EqOp (one_term (VariableTerm (codes "o") (OptionType BoolType)) (one_term (NoneTerm BoolType) no_terms)) BoolType)

-- `record.get`
abbrev pub term_19 : PlainTerm
term_19 =
    (Application (RecordGetOp (codes "a"))
    (one_term (VariableTerm (codes "r") (RecordType (attribute (codes "a") BoolType (attribute (codes "n") (BitVecType 8) no_attributes))))
    no_terms)
    BoolType)

-- a record of two attributes
abbrev pub term_20 : PlainTerm
term_20 =
    (Application EqOp
    (one_term (VariableTerm (codes "r") (RecordType (attribute (codes "a") BoolType (attribute (codes "n") (BitVecType 8) no_attributes))))
    (one_term
    (RecordTerm
    (one_field (codes "a") (VariableTerm (codes "p") BoolType) (one_field (codes "n") (LiteralTerm (BitVecLiteral 8 3)) no_fields)))
    no_terms))
    BoolType)

-- the pattern without parts
abbrev pub term_21 : PlainTerm
term_21 = (Application (StringLikeOp ([])) (one_term (VariableTerm (codes "str") StringType) no_terms) BoolType)

-- the pattern of a wildcard alone
abbrev pub term_22 : PlainTerm
term_22 = (Application (StringLikeOp (Wildcard ∷ [])) (one_term (VariableTerm (codes "str") StringType) no_terms) BoolType)

-- the pattern of one character
abbrev pub term_23 : PlainTerm
term_23 = (Application (StringLikeOp (Character 97 ∷ [])) (one_term (VariableTerm (codes "str") StringType) no_terms) BoolType)

-- a pattern with a quote, two backslashes, a wildcard and a character past ASCII
abbrev pub term_24 : PlainTerm
term_24 =
    (Application (StringLikeOp (Character 97 ∷ Character 34 ∷ Character 92 ∷ Character 92 ∷ Wildcard ∷ Character 233 ∷ []))
    (one_term (VariableTerm (codes "str") StringType) no_terms) BoolType)

-- the bits of a decimal
abbrev pub term_25 : PlainTerm
term_25 =
    (Application (TestOp BvsltOp)
    (one_term (Application (ExtOp DecimalValOp) (one_term (VariableTerm (codes "d") (ExtensionType DecimalKind)) no_terms) (BitVecType 64))
    (one_term (LiteralTerm (BitVecLiteral 64 0)) no_terms))
    BoolType)

-- a negative decimal
abbrev pub term_26 : PlainTerm
term_26 =
    (Application EqOp
    (one_term (VariableTerm (codes "d") (ExtensionType DecimalKind))
    (one_term (LiteralTerm (ExtensionLiteral (DecimalOf (negsuc 14999)))) no_terms))
    BoolType)

-- the datetime of a datetime's bits, and a datetime literal
abbrev pub term_27 : PlainTerm
term_27 =
    (Application EqOp
    (one_term
    (Application (ExtOp DatetimeOfBitVecOp)
    (one_term
    (Application (ExtOp DatetimeValOp) (one_term (VariableTerm (codes "dt") (ExtensionType DatetimeKind)) no_terms) (BitVecType 64))
    no_terms)
    (ExtensionType DatetimeKind))
    (one_term (LiteralTerm (ExtensionLiteral (DatetimeOf (pos 1728950400000)))) no_terms))
    BoolType)

-- the duration of a duration's bits, and a negative duration
abbrev pub term_28 : PlainTerm
term_28 =
    (Application EqOp
    (one_term
    (Application (ExtOp DurationOfBitVecOp)
    (one_term
    (Application (ExtOp DurationValOp) (one_term (VariableTerm (codes "du") (ExtensionType DurationKind)) no_terms) (BitVecType 64))
    no_terms)
    (ExtensionType DurationKind))
    (one_term (LiteralTerm (ExtensionLiteral (DurationOf (negsuc 86399999)))) no_terms))
    BoolType)

-- the family of an IP range
abbrev pub term_29 : PlainTerm
term_29 = (Application (ExtOp IpIsV4Op) (one_term (VariableTerm (codes "ip") (ExtensionType IpAddrKind)) no_terms) BoolType)

-- the address of an IPv4 range
abbrev pub term_30 : PlainTerm
term_30 =
    (Application EqOp
    (one_term (Application (ExtOp IpAddrV4Op) (one_term (VariableTerm (codes "ip") (ExtensionType IpAddrKind)) no_terms) (BitVecType 32))
    (one_term (LiteralTerm (BitVecLiteral 32 1)) no_terms))
    BoolType)

-- the address of an IPv6 range
abbrev pub term_31 : PlainTerm
term_31 =
    (Application EqOp
    (one_term (Application (ExtOp IpAddrV6Op) (one_term (VariableTerm (codes "ip") (ExtensionType IpAddrKind)) no_terms) (BitVecType 128))
    (one_term (LiteralTerm (BitVecLiteral 128 1)) no_terms))
    BoolType)

-- the prefix of an IPv4 range, and some of 5 bits
abbrev pub term_32 : PlainTerm
term_32 =
    (Application EqOp
    (one_term
    (Application (ExtOp IpPrefixV4Op) (one_term (VariableTerm (codes "ip") (ExtensionType IpAddrKind)) no_terms)
    (OptionType (BitVecType 5)))
    (one_term (SomeTerm (LiteralTerm (BitVecLiteral 5 1))) no_terms))
    BoolType)

-- the prefix of an IPv6 range, and none of 7 bits
abbrev pub term_33 : PlainTerm
term_33 =
    (Application EqOp
    (one_term
    (Application (ExtOp IpPrefixV6Op) (one_term (VariableTerm (codes "ip") (ExtensionType IpAddrKind)) no_terms)
    (OptionType (BitVecType 7)))
    (one_term (NoneTerm (BitVecType 7)) no_terms))
    BoolType)

-- an IPv6 address without prefix
abbrev pub term_34 : PlainTerm
term_34 =
    (Application EqOp
    (one_term (VariableTerm (codes "ip") (ExtensionType IpAddrKind)) (one_term (LiteralTerm (ExtensionLiteral (Ipv6Of 1 None))) no_terms))
    BoolType)

-- an IPv4 address with a prefix
abbrev pub term_35 : PlainTerm
term_35 =
    (Application EqOp
    (one_term (VariableTerm (codes "ip") (ExtensionType IpAddrKind))
    (one_term (LiteralTerm (ExtensionLiteral (Ipv4Of 167772160 (Some 8)))) no_terms))
    BoolType)

-- a member of an enum type
abbrev pub term_36 : PlainTerm
term_36 =
    (Application EqOp
    (one_term (VariableTerm (codes "c") (EntityType (codes "Color")))
    (one_term (LiteralTerm (EntityLiteral (codes "Color") (codes "b"))) no_terms))
    BoolType)

-- an entity of no enum type
abbrev pub term_37 : PlainTerm
term_37 =
    (Application EqOp
    (one_term (VariableTerm (codes "e") (EntityType (codes "User")))
    (one_term (LiteralTerm (EntityLiteral (codes "User") (codes "alice"))) no_terms))
    BoolType)

-- an entity variable in a set of entities
abbrev pub term_38 : PlainTerm
term_38 =
    (Application SetMemberOp
    (one_term (VariableTerm (codes "e") (EntityType (codes "User")))
    (one_term (VariableTerm (codes "se") (SetType (EntityType (codes "User")))) no_terms))
    BoolType)

-- all terms of this module, in order
abbrev pub all_terms : List PlainTerm
all_terms =
    term_0 ∷ term_1 ∷ term_2 ∷ term_3 ∷ term_4 ∷ term_5 ∷ term_6 ∷ term_7 ∷ term_8 ∷ term_9 ∷ term_10 ∷ term_11 ∷ term_12 ∷ term_13
    ∷ term_14 ∷ term_15 ∷ term_16 ∷ term_17 ∷ term_18 ∷ term_19 ∷ term_20 ∷ term_21 ∷ term_22 ∷ term_23 ∷ term_24 ∷ term_25 ∷ term_26
    ∷ term_27 ∷ term_28 ∷ term_29 ∷ term_30 ∷ term_31 ∷ term_32 ∷ term_33 ∷ term_34 ∷ term_35 ∷ term_36 ∷ term_37 ∷ term_38 ∷ []

-- what a fresh encoder writes for all of these terms, byte for byte
abbrev pub EveryOperator : Type 0
EveryOperator =
    text enums all_terms
    ≡ codes "(declare-datatype Option (par (X) (\n  (none)\n  (some (val X)))))\n; \"p\"\n"
    ++ codes "(declare-const t0 Bool)\n(define-fun t1 () Bool (not t0))\n; \"q\"\n(declare-const t2 Bool)\n"
    ++ codes "(define-fun t3 () Bool (and t0 t2))\n(define-fun t4 () Bool (or t1 t3))\n; \"x\"\n"
    ++ codes "(declare-const t5 (_ BitVec 64))\n; \"y\"\n(declare-const t6 (_ BitVec 64))\n"
    ++ codes "(define-fun t7 () (_ BitVec 64) (ite t0 t5 t6))\n(define-fun t8 () (_ BitVec 64) (bvneg t5))\n"
    ++ codes "(define-fun t9 () Bool (= t7 t8))\n; User\n(declare-datatype E0 (\n  (E0 (E0_eid String))))\n"
    ++ codes "(define-fun t10 () E0 (E0 \"al\"\"ice\"))\n; f\n(declare-fun f0 (E0) Bool)\n"
    ++ codes "(define-fun t11 () Bool (f0 t10))\n(define-fun t12 () (_ BitVec 64) (bvadd t5 t6))\n"
    ++ codes "(define-fun t13 () (_ BitVec 64) (bvsub t5 t6))\n(define-fun t14 () Bool (bvslt t12 t13))\n"
    ++ codes "(define-fun t15 () (_ BitVec 64) (bvmul t5 t6))\n(define-fun t16 () (_ BitVec 64) (bvudiv t5 t6))\n"
    ++ codes "(define-fun t17 () Bool (bvsle t15 t16))\n(define-fun t18 () (_ BitVec 64) (bvurem t5 t6))\n"
    ++ codes "(define-fun t19 () (_ BitVec 64) (bvsdiv t5 t6))\n(define-fun t20 () Bool (bvult t18 t19))\n"
    ++ codes "(define-fun t21 () (_ BitVec 64) (bvsrem t5 t6))\n"
    ++ codes "(define-fun t22 () (_ BitVec 64) (bvsmod t5 t6))\n(define-fun t23 () Bool (bvule t21 t22))\n"
    ++ codes "(define-fun t24 () (_ BitVec 64) (bvshl t5 t6))\n(define-fun t25 () (_ BitVec 64) (bvlshr t5 t6))\n"
    ++ codes "(define-fun t26 () Bool (= t24 t25))\n" ++ codes "(define-fun t27 () Bool (= t5 (_ bv9223372036854775808 64)))\n"
    ++ codes "(define-fun t28 () Bool (bvsaddo t5 t6))\n(define-fun t29 () Bool (bvssubo t5 t6))\n"
    ++ codes "(define-fun t30 () Bool (bvsmulo t5 t6))\n" ++ codes "(define-fun t31 () (_ BitVec 128) ((_ zero_extend 64) t5))\n"
    ++ codes "(define-fun t32 () Bool (= t31 (_ bv5 128)))\n; \"s\"\n(declare-const t33 (Set String))\n"
    ++ codes "(define-fun t34 () Bool (set.member \"a\" t33))\n; \"str\"\n(declare-const t35 String)\n"
    ++ codes "(define-fun t36 () (Set String) (set.insert \"a\" t35 (as set.empty (Set String))))\n; \"u\"\n"
    ++ codes "(declare-const t37 (Set String))\n(define-fun t38 () (Set String) (set.inter t33 t37))\n"
    ++ codes "(define-fun t39 () Bool (set.subset t36 t38))\n" ++ codes "(define-fun t40 () (Set String) (as set.empty (Set String)))\n"
    ++ codes "(define-fun t41 () Bool (= t37 t40))\n; \"o\"\n(declare-const t42 (Option Bool))\n"
    ++ codes "(define-fun t43 () Bool (val t42))\n(define-fun t44 () (Option Bool) (some t0))\n"
    ++ codes "(define-fun t45 () Bool (= t44 t42))\n(define-fun t46 () (Option Bool) (as none (Option Bool)))\n"
    ++ codes "(define-fun t47 () Bool (= t42 t46))\n; {a, n}\n(declare-datatype R1 (\n"
    ++ codes "  (R1 (R1_a0 Bool) (R1_a1 (_ BitVec 8)))))\n; \"r\"\n(declare-const t48 R1)\n"
    ++ codes "(define-fun t49 () Bool (R1_a0 t48))\n(define-fun t50 () R1 (R1 t0 (_ bv3 8)))\n"
    ++ codes "(define-fun t51 () Bool (= t48 t50))\n(define-fun t52 () Bool (str.in_re t35 (str.to_re \"\")))\n"
    ++ codes "(define-fun t53 () Bool (str.in_re t35 (re.* re.allchar)))\n"
    ++ codes "(define-fun t54 () Bool (str.in_re t35 (str.to_re \"a\")))\n"
    ++ codes "(define-fun t55 () Bool (str.in_re t35 (re.++ (str.to_re \"a\") (str.to_re \"\"\"\") (str.to_re "
    ++ codes "\"\\u{5c}\") (str.to_re \"\\u{5c}\") (re.* re.allchar) (str.to_re \"\\u{e9}\"))))\n"
    ++ codes "(declare-datatype Decimal (\n  (Decimal (decimalVal (_ BitVec 64)))))\n; \"d\"\n"
    ++ codes "(declare-const t56 Decimal)\n(define-fun t57 () (_ BitVec 64) (decimalVal t56))\n"
    ++ codes "(define-fun t58 () Bool (bvslt t57 (_ bv0 64)))\n"
    ++ codes "(define-fun t59 () Decimal (Decimal (_ bv18446744073709536616 64)))\n"
    ++ codes "(define-fun t60 () Bool (= t56 t59))\n(declare-datatype Datetime (\n"
    ++ codes "  (Datetime (datetimeVal (_ BitVec 64)))))\n; \"dt\"\n(declare-const t61 Datetime)\n"
    ++ codes "(define-fun t62 () (_ BitVec 64) (datetimeVal t61))\n(define-fun t63 () Datetime (Datetime t62))\n"
    ++ codes "(define-fun t64 () Datetime (Datetime (_ bv1728950400000 64)))\n"
    ++ codes "(define-fun t65 () Bool (= t63 t64))\n(declare-datatype Duration (\n"
    ++ codes "  (Duration (durationVal (_ BitVec 64)))))\n; \"du\"\n(declare-const t66 Duration)\n"
    ++ codes "(define-fun t67 () (_ BitVec 64) (durationVal t66))\n(define-fun t68 () Duration (Duration t67))\n"
    ++ codes "(define-fun t69 () Duration (Duration (_ bv18446744073623151616 64)))\n"
    ++ codes "(define-fun t70 () Bool (= t68 t69))\n(declare-datatype IPAddr (\n"
    ++ codes "  (V4 (addrV4 (_ BitVec 32)) (prefixV4 (Option (_ BitVec 5))))\n"
    ++ codes "  (V6 (addrV6 (_ BitVec 128)) (prefixV6 (Option (_ BitVec 7))))))\n; \"ip\"\n"
    ++ codes "(declare-const t71 IPAddr)\n(define-fun t72 () Bool ((_ is V4) t71))\n"
    ++ codes "(define-fun t73 () (_ BitVec 32) (addrV4 t71))\n(define-fun t74 () Bool (= t73 (_ bv1 32)))\n"
    ++ codes "(define-fun t75 () (_ BitVec 128) (addrV6 t71))\n(define-fun t76 () Bool (= t75 (_ bv1 128)))\n"
    ++ codes "(define-fun t77 () (Option (_ BitVec 5)) (prefixV4 t71))\n"
    ++ codes "(define-fun t78 () (Option (_ BitVec 5)) (some (_ bv1 5)))\n(define-fun t79 () Bool (= t77 t78))\n"
    ++ codes "(define-fun t80 () (Option (_ BitVec 7)) (prefixV6 t71))\n"
    ++ codes "(define-fun t81 () (Option (_ BitVec 7)) (as none (Option (_ BitVec 7))))\n" ++ codes "(define-fun t82 () Bool (= t80 t81))\n"
    ++ codes "(define-fun t83 () IPAddr (V6 (_ bv1 128) (as none (Option (_ BitVec 7)))))\n"
    ++ codes "(define-fun t84 () Bool (= t71 t83))\n" ++ codes "(define-fun t85 () IPAddr (V4 (_ bv167772160 32) (some (_ bv8 5))))\n"
    ++ codes "(define-fun t86 () Bool (= t71 t85))\n; Color::[a, b]\n(declare-datatype E6 (\n  (E6_m0)\n"
    ++ codes "  (E6_m1)))\n; \"c\"\n(declare-const t87 E6)\n(define-fun t89 () Bool (= t87 E6_m1))\n; \"e\"\n"
    ++ codes "(declare-const t90 E0)\n(define-fun t91 () E0 (E0 \"alice\"))\n"
    ++ codes "(define-fun t92 () Bool (= t90 t91))\n; \"se\"\n(declare-const t93 (Set E0))\n"
    ++ codes "(define-fun t94 () Bool (set.member t90 t93))\n(assert t4)\n(assert t9)\n(assert t11)\n"
    ++ codes "(assert t14)\n(assert t17)\n(assert t20)\n(assert t23)\n(assert t26)\n(assert t27)\n(assert t28)\n"
    ++ codes "(assert t29)\n(assert t30)\n(assert t32)\n(assert t34)\n(assert t39)\n(assert t41)\n(assert t43)\n"
    ++ codes "(assert t45)\n(assert t47)\n(assert t49)\n(assert t51)\n(assert t52)\n(assert t53)\n(assert t54)\n"
    ++ codes "(assert t55)\n(assert t58)\n(assert t60)\n(assert t65)\n(assert t70)\n(assert t72)\n(assert t74)\n"
    ++ codes "(assert t76)\n(assert t79)\n(assert t82)\n(assert t84)\n(assert t86)\n(assert t89)\n(assert t92)\n" ++ codes "(assert t94)\n"
