-- A script with entities, records, functions, patterns, sets, addresses and dates.
use Rattle.std.specs.Prelude.{◌≡◌, ℕ, codes, List, [], ◌∷◌, ◌++◌}
use Rattle.law_scripts.specs.Script.{State, name, assertions_of}
use Rattle.law_scripts.specs.Value.{free_names}
use Rattle.law_scripts.specs.Written.{option_lines}
use Rattle.law_scripts.specs.CommandLines.{SortedScript}

-- a user, whose attributes and tags two functions give, and four assertions: on a pattern, a set, an address and a date
abbrev pub long_sample : List ℕ
long_sample = option_lines
    ++ codes "(declare-datatype Datetime (\n  (Datetime (datetimeVal (_ BitVec 64)))))\n"
    ++ codes "(declare-datatype IPAddr (\n  (V4 (addrV4 (_ BitVec 32)) (prefixV4 (Option (_ BitVec 5))))\n"
    ++ codes "  (V6 (addrV6 (_ BitVec 128)) (prefixV6 (Option (_ BitVec 7))))))\n"
    ++ codes "; {dept, joined, src}\n"
    ++ codes "(declare-datatype R2 (\n  (R2 (R2_a0 String) (R2_a1 Datetime) (R2_a2 IPAddr))))\n"
    ++ codes "; User\n"
    ++ codes "(declare-datatype E3 (\n  (E3 (E3_eid String))))\n"
    ++ codes "; \"principal\"\n"
    ++ codes "(declare-const t0 E3)\n"
    ++ codes "; attrs[User]\n"
    ++ codes "(declare-fun f0 (E3) R2)\n"
    ++ codes "(define-fun t1 () R2 (f0 t0))\n"
    ++ codes "(define-fun t2 () String (R2_a0 t1))\n"
    ++ codes "(define-fun t3 () Bool (str.in_re t2 (re.++ (str.to_re \"e\") (str.to_re \"n\") (str.to_re \"g\") (re.* re.allchar))))\n"
    ++ codes "; tags[User]\n"
    ++ codes "(declare-fun f1 (E3) (Set String))\n"
    ++ codes "(define-fun t4 () (Set String) (f1 t0))\n"
    ++ codes "(define-fun t5 () Bool (set.member \"vpn\" t4))\n"
    ++ codes "(define-fun t6 () IPAddr (R2_a2 t1))\n"
    ++ codes "(define-fun t7 () Bool ((_ is V4) t6))\n"
    ++ codes "(define-fun t8 () (_ BitVec 32) (addrV4 t6))\n"
    ++ codes "(define-fun t9 () (_ BitVec 32) (bvlshr t8 (_ bv24 32)))\n"
    ++ codes "(define-fun t10 () Bool (= t9 (_ bv10 32)))\n"
    ++ codes "(define-fun t11 () Bool (and t7 t10))\n"
    ++ codes "(define-fun t12 () Datetime (R2_a1 t1))\n"
    ++ codes "(define-fun t13 () (_ BitVec 64) (datetimeVal t12))\n"
    ++ codes "(define-fun t14 () Bool (bvslt t13 (_ bv1728950400000 64)))\n"
    ++ codes "(assert t3)\n"
    ++ codes "(assert t5)\n"
    ++ codes "(assert t11)\n"
    ++ codes "(assert t14)\n"

-- It is a well-sorted script. It asserts t3, t5, t11 and t14, and its free names are f1, f0 and t0.
abbrev pub LongSampleIsScript : Type 0
LongSampleIsScript =
    (s : State) × SortedScript long_sample s
    × (assertions_of s ≡ name (codes "t3") ∷ name (codes "t5") ∷ name (codes "t11") ∷ name (codes "t14") ∷ [])
    × (free_names s ≡ codes "f1" ∷ codes "f0" ∷ codes "t0" ∷ [])
