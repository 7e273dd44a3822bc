-- How scripts spell operators, and the operators of the theories.
use Rattle.std.specs.Prelude.{ℕ, codes, List, [], ◌∷◌, ◌++◌, map}
use Rattle.law_numbers.specs.BitOperators.{bits_operators, test_operators, overflow_operators}
use Rattle.law_terms.specs.Names.{op_name}
use Rattle.law_terms.specs.Plain.{PlainOp, AndOp, BvnegOp, EqOp, IteOp, NotOp, OptionGetOp, OrOp, SetInterOp, SetMemberOp, SetSubsetOp}
use Rattle.law_terms.specs.Plain.{StringLikeOp, BitsOp, TestOp, OverflowOp}

-- The name by which a script calls an operator: its own, but for `=` (Core), `str.in_re` (UnicodeStrings) and the
-- selector of the datatype Option.
abbrev pub script_name : PlainOp → List ℕ
script_name EqOp = codes "="
script_name OptionGetOp = codes "val"
script_name (StringLikeOp p) = codes "str.in_re"
script_name op = op_name op

-- the operators of Core, of FixedSizeBitVectors and QF_BV and of finite sets that a name alone stands for
abbrev pub theory_operators : List PlainOp
theory_operators =
    NotOp ∷ AndOp ∷ OrOp ∷ EqOp ∷ IteOp ∷ BvnegOp
    ∷ map BitsOp bits_operators
    ++ (map TestOp test_operators ++ (map OverflowOp overflow_operators ++ SetMemberOp ∷ SetSubsetOp ∷ SetInterOp ∷ []))
