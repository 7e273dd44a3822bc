-- Terms whose texts have characters that scripts do not have, and the bytes that are written for them.
use Rattle.std.specs.Prelude.{◌≡◌, negsuc, codes, Some, List, [], ◌∷◌, ◌++◌}
use Rattle.law_numbers.specs.BitOperators.{BvmulOp, BvultOp}
use Rattle.law_terms.specs.Plain.{PlainTerm, IpAddrKind, DecimalKind, DurationKind, OptionType, BitVecType, BoolType, EntityType}
use Rattle.law_terms.specs.Plain.{ExtensionType, StringType, RecordType, SetType, no_attributes, attribute, IpIsV4Op, Character, Wildcard}
use Rattle.law_terms.specs.Plain.{EqOp, ExtOp, OptionGetOp, RecordGetOp, SetMemberOp, StringLikeOp, UufOp, DecimalOf, Ipv6Of, DurationOf}
use Rattle.law_terms.specs.Plain.{BitVecLiteral, EntityLiteral, ExtensionLiteral, StringLiteral, Application, NoneTerm, LiteralTerm}
use Rattle.law_terms.specs.Plain.{RecordTerm, SetTerm, SomeTerm, VariableTerm, no_terms, one_term, no_fields, one_field, BitsOp, TestOp}
use Rattle.law_terms.specs.TypeValues.{Enums}
use Rattle.law_lines.specs.Text.{text}

-- an enum type with a semicolon and CR in its name, with members that are empty and that have a bar or LF, and one with one member
abbrev pub enums : Enums
enums =
    ((67 ∷ 111 ∷ 59 ∷ 108 ∷ 13 ∷ 111 ∷ 114 ∷ []), (codes "") ∷ (97 ∷ 195 ∷ 169 ∷ 124 ∷ []) ∷ (98 ∷ 10 ∷ []) ∷ [])
    ∷ ((codes "Z"), (codes "only") ∷ []) ∷ []

-- a variable whose id is CR and then a command
abbrev pub term_0 : PlainTerm
term_0 = (VariableTerm (120 ∷ 13 ∷ 40 ∷ 97 ∷ 115 ∷ 115 ∷ 101 ∷ 114 ∷ 116 ∷ 32 ∷ 102 ∷ 97 ∷ 108 ∷ 115 ∷ 101 ∷ 41 ∷ []) BoolType)

-- a variable whose id has control characters, a quote, a backslash, a character past ASCII, a bar and a semicolon
abbrev pub term_1 : PlainTerm
term_1 =
    (VariableTerm
    (116 ∷ 97 ∷ 98 ∷ 9 ∷ 110 ∷ 117 ∷ 108 ∷ 0 ∷ 100 ∷ 101 ∷ 108 ∷ 127 ∷ 101 ∷ 115 ∷ 99 ∷ 27 ∷ 113 ∷ 34 ∷ 98 ∷ 92 ∷ 117 ∷ 195 ∷ 169 ∷ 97 ∷ 39
    ∷ 124 ∷ 59 ∷ [])
    BoolType)

-- a variable without id, and a string with control characters, what looks like an escape, the greatest character and line ends
abbrev pub term_2 : PlainTerm
term_2 =
    (Application EqOp
    (one_term (VariableTerm (codes "") StringType) (one_term
    (LiteralTerm (StringLiteral
    (0 ∷ 127 ∷ 97 ∷ 32 ∷ 98 ∷ 126 ∷ 34 ∷ 92 ∷ 117 ∷ 123 ∷ 53 ∷ 99 ∷ 125 ∷ 240 ∷ 175 ∷ 191 ∷ 191 ∷ 195 ∷ 169 ∷ 13 ∷ 10 ∷ 59 ∷ 124 ∷ [])))
    no_terms))
    BoolType)

-- the member with LF in it
abbrev pub term_3 : PlainTerm
term_3 =
    (Application EqOp
    (one_term (VariableTerm (codes "c") (EntityType (67 ∷ 111 ∷ 59 ∷ 108 ∷ 13 ∷ 111 ∷ 114 ∷ [])))
    (one_term (LiteralTerm (EntityLiteral (67 ∷ 111 ∷ 59 ∷ 108 ∷ 13 ∷ 111 ∷ 114 ∷ []) (98 ∷ 10 ∷ []))) no_terms))
    BoolType)

-- the member without characters
abbrev pub term_4 : PlainTerm
term_4 =
    (Application EqOp
    (one_term (VariableTerm (codes "c") (EntityType (67 ∷ 111 ∷ 59 ∷ 108 ∷ 13 ∷ 111 ∷ 114 ∷ [])))
    (one_term (LiteralTerm (EntityLiteral (67 ∷ 111 ∷ 59 ∷ 108 ∷ 13 ∷ 111 ∷ 114 ∷ []) (codes ""))) no_terms))
    BoolType)

-- an entity with LF in its type, and with a quote, a backslash and a character past ASCII in its id
abbrev pub term_5 : PlainTerm
term_5 =
    (Application EqOp
    (one_term (VariableTerm (codes "e") (EntityType (78 ∷ 10 ∷ 83 ∷ 58 ∷ 58 ∷ 84 ∷ 195 ∷ 169 ∷ [])))
    (one_term (LiteralTerm (EntityLiteral (78 ∷ 10 ∷ 83 ∷ 58 ∷ 58 ∷ 84 ∷ 195 ∷ 169 ∷ []) (105 ∷ 34 ∷ 100 ∷ 195 ∷ 169 ∷ 92 ∷ []))) no_terms))
    BoolType)

-- `option.get` of `option.get`, and the only member of an enum type
abbrev pub term_6 : PlainTerm
term_6 =
    (Application EqOp
    (one_term
    (Application OptionGetOp
    (one_term
    (Application OptionGetOp (one_term (VariableTerm (codes "o") (OptionType (OptionType (EntityType (codes "Z"))))) no_terms)
    (OptionType (EntityType (codes "Z"))))
    no_terms)
    (EntityType (codes "Z")))
    (one_term (LiteralTerm (EntityLiteral (codes "Z") (codes "only"))) no_terms))
    BoolType)

-- some of none
abbrev pub term_7 : PlainTerm
term_7 =
    (Application EqOp
    (one_term (VariableTerm (codes "o") (OptionType (OptionType (EntityType (codes "Z")))))
    (one_term (SomeTerm (NoneTerm (EntityType (codes "Z")))) no_terms))
    BoolType)

-- a record inside a record, with line ends in the name of an attribute, and an attribute without a name
abbrev pub term_8 : PlainTerm
term_8 =
    (Application SetMemberOp
    (one_term (LiteralTerm (EntityLiteral (codes "Z") (codes "only"))) (one_term
    (Application (RecordGetOp (codes ""))
    (one_term
    (Application (RecordGetOp (98 ∷ 13 ∷ 10 ∷ 99 ∷ []))
    (one_term
    (VariableTerm (codes "r") (RecordType (attribute (98 ∷ 13 ∷ 10 ∷ 99 ∷ [])
    (RecordType (attribute (codes "") (SetType (EntityType (codes "Z"))) no_attributes))
    (attribute (195 ∷ 169 ∷ []) (OptionType (ExtensionType DecimalKind)) no_attributes))))
    no_terms)
    (RecordType (attribute (codes "") (SetType (EntityType (codes "Z"))) no_attributes)))
    no_terms)
    (SetType (EntityType (codes "Z"))))
    no_terms))
    BoolType)

-- an attribute with a name past ASCII, and the decimal of the bits of -1
abbrev pub term_9 : PlainTerm
term_9 =
    (Application EqOp
    (one_term
    (Application (RecordGetOp (195 ∷ 169 ∷ []))
    (one_term
    (VariableTerm (codes "r") (RecordType (attribute (98 ∷ 13 ∷ 10 ∷ 99 ∷ [])
    (RecordType (attribute (codes "") (SetType (EntityType (codes "Z"))) no_attributes))
    (attribute (195 ∷ 169 ∷ []) (OptionType (ExtensionType DecimalKind)) no_attributes))))
    no_terms)
    (OptionType (ExtensionType DecimalKind)))
    (one_term (SomeTerm (LiteralTerm (ExtensionLiteral (DecimalOf (negsuc 0))))) no_terms))
    BoolType)

-- a function whose id is LF and a command, of a record with an IPv6 range of prefix 0
abbrev pub term_10 : PlainTerm
term_10 =
    (Application EqOp
    (one_term
    (Application
    (UufOp (record {
      id = (102 ∷ 10 ∷ 40 ∷ 99 ∷ 104 ∷ 101 ∷ 99 ∷ 107 ∷ 45 ∷ 115 ∷ 97 ∷ 116 ∷ 41 ∷ []);
      argument =
          (RecordType (attribute (codes "j") (ExtensionType IpAddrKind) (attribute (codes "k") (EntityType (codes "Z")) no_attributes)));
      output = (EntityType (78 ∷ 10 ∷ 83 ∷ 58 ∷ 58 ∷ 84 ∷ 195 ∷ 169 ∷ []));
    }))
    (one_term
    (RecordTerm (one_field (codes "j") (LiteralTerm (ExtensionLiteral (Ipv6Of 0 (Some 0))))
    (one_field (codes "k") (LiteralTerm (EntityLiteral (codes "Z") (codes "only"))) no_fields)))
    no_terms)
    (EntityType (78 ∷ 10 ∷ 83 ∷ 58 ∷ 58 ∷ 84 ∷ 195 ∷ 169 ∷ [])))
    (one_term (VariableTerm (codes "e") (EntityType (78 ∷ 10 ∷ 83 ∷ 58 ∷ 58 ∷ 84 ∷ 195 ∷ 169 ∷ []))) no_terms))
    BoolType)

-- a record with a record, an empty set and none in it
abbrev pub term_11 : PlainTerm
term_11 =
    (Application EqOp
    (one_term
    (VariableTerm (codes "r") (RecordType (attribute (98 ∷ 13 ∷ 10 ∷ 99 ∷ [])
    (RecordType (attribute (codes "") (SetType (EntityType (codes "Z"))) no_attributes))
    (attribute (195 ∷ 169 ∷ []) (OptionType (ExtensionType DecimalKind)) no_attributes))))
    (one_term
    (RecordTerm (one_field (98 ∷ 13 ∷ 10 ∷ 99 ∷ [])
    (RecordTerm (one_field (codes "") (SetTerm (EntityType (codes "Z")) no_terms) no_fields))
    (one_field (195 ∷ 169 ∷ []) (NoneTerm (ExtensionType DecimalKind)) no_fields)))
    no_terms))
    BoolType)

-- the greatest number of 128 bits
abbrev pub term_12 : PlainTerm
term_12 =
    (Application (TestOp BvultOp)
    (one_term
    (Application (BitsOp BvmulOp)
    (one_term (VariableTerm (codes "n") (BitVecType 128))
    (one_term (LiteralTerm (BitVecLiteral 128 340282366920938463463374607431768211455)) no_terms))
    (BitVecType 128))
    (one_term (LiteralTerm (BitVecLiteral 128 0)) no_terms))
    BoolType)

-- a pattern with wildcards, a backslash, a quote, the least and the greatest character
abbrev pub term_13 : PlainTerm
term_13 =
    (Application (StringLikeOp (Wildcard ∷ Character 92 ∷ Wildcard ∷ Character 34 ∷ Character 0 ∷ Character 196607 ∷ []))
    (one_term (VariableTerm (codes "") StringType) no_terms) BoolType)

-- a function from Bool to durations, at the family of an IP range, and a negative duration
abbrev pub term_14 : PlainTerm
term_14 =
    (Application EqOp
    (one_term
    (Application (UufOp (record { id = (codes "f2"); argument = BoolType; output = (ExtensionType DurationKind) }))
    (one_term (Application (ExtOp IpIsV4Op) (one_term (VariableTerm (codes "ip") (ExtensionType IpAddrKind)) no_terms) BoolType) no_terms)
    (ExtensionType DurationKind))
    (one_term (LiteralTerm (ExtensionLiteral (DurationOf (negsuc 604799999)))) no_terms))
    BoolType)

-- all terms of this module, in order
abbrev pub all_terms : List PlainTerm
all_terms =
    term_0 ∷ term_1 ∷ term_2 ∷ term_3 ∷ term_4 ∷ term_5 ∷ term_6 ∷ term_7 ∷ term_8 ∷ term_9 ∷ term_10 ∷ term_11 ∷ term_12 ∷ term_13
    ∷ term_14 ∷ []

-- what a fresh encoder writes for all of these terms, byte for byte
abbrev pub HostileTexts : Type 0
HostileTexts =
    text enums all_terms
    ≡ codes "(declare-datatype Option (par (X) (\n  (none)\n  (some (val X)))))\n; \"x\\r(assert false)\"\n"
    ++ codes "(declare-const t0 Bool)\n; \"tab\\tnul\\0del\\u{7f}esc\\u{1b}q\\\"b\\\\u" ++ (195 ∷ 169 ∷ [])
    ++ codes "a'|;\"\n(declare-const t1 Bool)\n; \"\"\n(declare-const t2 String)\n"
    ++ codes "(define-fun t3 () Bool (= t2 \"\\u{0}\\u{7f}a b~\"\"\\u{5c}u{5c}\\u{2ffff}\\u{e9}\\u{d}\\u{a};|\"))\n"
    ++ codes "; Co;l or::[, a" ++ (195 ∷ 169 ∷ [])
    ++ codes "|, b ]\n(declare-datatype E0 (\n  (E0_m0)\n  (E0_m1)\n  (E0_m2)))\n; \"c\"\n(declare-const t4 E0)\n"
    ++ codes "(define-fun t6 () Bool (= t4 E0_m2))\n(define-fun t8 () Bool (= t4 E0_m0))\n; N S::T" ++ (195 ∷ 169 ∷ [])
    ++ codes "\n(declare-datatype E1 (\n  (E1 (E1_eid String))))\n; \"e\"\n(declare-const t9 E1)\n"
    ++ codes "(define-fun t10 () E1 (E1 \"i\"\"d\\u{e9}\\u{5c}\"))\n(define-fun t11 () Bool (= t9 t10))\n"
    ++ codes "; Z::[only]\n(declare-datatype E2 (\n  (E2_m0)))\n; \"o\"\n"
    ++ codes "(declare-const t12 (Option (Option E2)))\n(define-fun t13 () (Option E2) (val t12))\n"
    ++ codes "(define-fun t14 () E2 (val t13))\n(define-fun t16 () Bool (= t14 E2_m0))\n"
    ++ codes "(define-fun t17 () (Option E2) (as none (Option E2)))\n"
    ++ codes "(define-fun t18 () (Option (Option E2)) (some t17))\n(define-fun t19 () Bool (= t12 t18))\n; {}\n"
    ++ codes "(declare-datatype R3 (\n  (R3 (R3_a0 (Set E2)))))\n(declare-datatype Decimal (\n"
    ++ codes "  (Decimal (decimalVal (_ BitVec 64)))))\n; {b  c, " ++ (195 ∷ 169 ∷ [])
    ++ codes "}\n(declare-datatype R5 (\n  (R5 (R5_a0 R3) (R5_a1 (Option Decimal)))))\n; \"r\"\n"
    ++ codes "(declare-const t20 R5)\n(define-fun t21 () R3 (R5_a0 t20))\n"
    ++ codes "(define-fun t22 () (Set E2) (R3_a0 t21))\n(define-fun t23 () Bool (set.member E2_m0 t22))\n"
    ++ codes "(define-fun t24 () (Option Decimal) (R5_a1 t20))\n"
    ++ codes "(define-fun t25 () Decimal (Decimal (_ bv18446744073709551615 64)))\n"
    ++ codes "(define-fun t26 () (Option Decimal) (some t25))\n(define-fun t27 () Bool (= t24 t26))\n"
    ++ codes "(declare-datatype IPAddr (\n  (V4 (addrV4 (_ BitVec 32)) (prefixV4 (Option (_ BitVec 5))))\n"
    ++ codes "  (V6 (addrV6 (_ BitVec 128)) (prefixV6 (Option (_ BitVec 7))))))\n; {j, k}\n"
    ++ codes "(declare-datatype R7 (\n  (R7 (R7_a0 IPAddr) (R7_a1 E2))))\n"
    ++ codes "(define-fun t28 () IPAddr (V6 (_ bv0 128) (some (_ bv0 7))))\n"
    ++ codes "(define-fun t29 () R7 (R7 t28 E2_m0))\n; f (check-sat)\n(declare-fun f0 (R7) E1)\n"
    ++ codes "(define-fun t30 () E1 (f0 t29))\n(define-fun t31 () Bool (= t30 t9))\n"
    ++ codes "(define-fun t32 () (Set E2) (as set.empty (Set E2)))\n(define-fun t33 () R3 (R3 t32))\n"
    ++ codes "(define-fun t34 () (Option Decimal) (as none (Option Decimal)))\n"
    ++ codes "(define-fun t35 () R5 (R5 t33 t34))\n(define-fun t36 () Bool (= t20 t35))\n; \"n\"\n"
    ++ codes "(declare-const t37 (_ BitVec 128))\n"
    ++ codes "(define-fun t38 () (_ BitVec 128) (bvmul t37 (_ bv340282366920938463463374607431768211455 128)))\n"
    ++ codes "(define-fun t39 () Bool (bvult t38 (_ bv0 128)))\n"
    ++ codes "(define-fun t40 () Bool (str.in_re t2 (re.++ (re.* re.allchar) (str.to_re \"\\u{5c}\") (re.* "
    ++ codes "re.allchar) (str.to_re \"\"\"\") (str.to_re \"\\u{0}\") (str.to_re \"\\u{2ffff}\"))))\n"
    ++ codes "(declare-datatype Duration (\n  (Duration (durationVal (_ BitVec 64)))))\n; \"ip\"\n"
    ++ codes "(declare-const t41 IPAddr)\n(define-fun t42 () Bool ((_ is V4) t41))\n; f2\n"
    ++ codes "(declare-fun f1 (Bool) Duration)\n(define-fun t43 () Duration (f1 t42))\n"
    ++ codes "(define-fun t44 () Duration (Duration (_ bv18446744073104751616 64)))\n"
    ++ codes "(define-fun t45 () Bool (= t43 t44))\n(assert t0)\n(assert t1)\n(assert t3)\n(assert t6)\n"
    ++ codes "(assert t8)\n(assert t11)\n(assert t16)\n(assert t19)\n(assert t23)\n(assert t27)\n(assert t31)\n"
    ++ codes "(assert t36)\n(assert t39)\n(assert t40)\n(assert t45)\n"
