-- Terms that clauses speak of, one abbreviation for each operator.
use Rattle.std.specs.Prelude.{◌+◌, ℕ, Bool, List, [], ◌∷◌}
use Rattle.law_numbers.specs.BitOperators.{BitsOperator, BvsltOp, OverflowOperator, TestOperator}
use Rattle.law_terms.specs.Plain.{PlainType, BitVecType, BoolType, AndOp, BitsOp, BvnegOp, EqOp, ExtensionOp, ExtOp, IteOp, NotOp}
use Rattle.law_terms.specs.Plain.{OptionGetOp, OrOp, OverflowOp, PatternPart, RecordGetOp, SetInterOp, SetMemberOp, SetSubsetOp}
use Rattle.law_terms.specs.Plain.{StringLikeOp, TestOp, ZeroExtendOp, BitVecLiteral, BoolLiteral, PlainTerm, Application, LiteralTerm}
use Rattle.law_terms.specs.Plain.{terms}
use Rattle.law_terms.specs.Types.{extension_signature}

-- ---- at any type

-- `not`
abbrev pub not_term : PlainTerm → PlainTerm
not_term t = Application NotOp (terms (t ∷ [])) BoolType

-- `and`
abbrev pub and_term : PlainTerm → PlainTerm → PlainTerm
and_term t u = Application AndOp (terms (t ∷ u ∷ [])) BoolType

-- `or`
abbrev pub or_term : PlainTerm → PlainTerm → PlainTerm
or_term t u = Application OrOp (terms (t ∷ u ∷ [])) BoolType

-- `=`
abbrev pub eq_term : PlainTerm → PlainTerm → PlainTerm
eq_term t u = Application EqOp (terms (t ∷ u ∷ [])) BoolType

-- `ite` to a type
abbrev pub ite_term : PlainType → PlainTerm → PlainTerm → PlainTerm → PlainTerm
ite_term ty g t u = Application IteOp (terms (g ∷ t ∷ u ∷ [])) ty

-- a Boolean literal
abbrev pub bool_term : Bool → PlainTerm
bool_term b = LiteralTerm (BoolLiteral b)

-- ---- bitvectors

-- a literal of n bits
abbrev pub number_term : ℕ → ℕ → PlainTerm
number_term n k = LiteralTerm (BitVecLiteral n k)

-- an operator from two bitvectors of n bits to one
abbrev pub bits_term : ℕ → BitsOperator → PlainTerm → PlainTerm → PlainTerm
bits_term n o a b = Application (BitsOp o) (terms (a ∷ b ∷ [])) (BitVecType n)

-- a comparison of two bitvectors
abbrev pub test_term : TestOperator → PlainTerm → PlainTerm → PlainTerm
test_term o a b = Application (TestOp o) (terms (a ∷ b ∷ [])) BoolType

-- a test of two bitvectors for overflow
abbrev pub overflow_term : OverflowOperator → PlainTerm → PlainTerm → PlainTerm
overflow_term o a b = Application (OverflowOp o) (terms (a ∷ b ∷ [])) BoolType

-- `bvneg` at n bits
abbrev pub negated_term : ℕ → PlainTerm → PlainTerm
negated_term n a = Application BvnegOp (terms (a ∷ [])) (BitVecType n)

-- a bitvector of n bits in twice as many
abbrev pub wide : ℕ → PlainTerm → PlainTerm
wide n a = Application (ZeroExtendOp n) (terms (a ∷ [])) (BitVecType (n + n))

-- a bitvector of n bits is less than 0
abbrev pub negative_term : ℕ → PlainTerm → PlainTerm
negative_term n a = test_term BvsltOp a (number_term n 0)

-- the negation where g is true
abbrev pub negated_where : ℕ → PlainTerm → PlainTerm → PlainTerm
negated_where n g a = ite_term (BitVecType n) g (negated_term n a) a

-- the absolute value
abbrev pub magnitude_term : ℕ → PlainTerm → PlainTerm
magnitude_term n a = negated_where n (negative_term n a) a

-- ---- options, records, sets, strings and values of extension types

-- `option.get` to a type
abbrev pub get_term : PlainType → PlainTerm → PlainTerm
get_term ty o = Application OptionGetOp (terms (o ∷ [])) ty

-- `record.get` of an attribute of a type
abbrev pub attribute_term : PlainType → List ℕ → PlainTerm → PlainTerm
attribute_term ty a r = Application (RecordGetOp a) (terms (r ∷ [])) ty

-- `set.member`
abbrev pub member_term : PlainTerm → PlainTerm → PlainTerm
member_term t s = Application SetMemberOp (terms (t ∷ s ∷ [])) BoolType

-- `set.subset`
abbrev pub subset_term : PlainTerm → PlainTerm → PlainTerm
subset_term r s = Application SetSubsetOp (terms (r ∷ s ∷ [])) BoolType

-- `set.inter` of a set type
abbrev pub inter_term : PlainType → PlainTerm → PlainTerm → PlainTerm
inter_term ty r s = Application SetInterOp (terms (r ∷ s ∷ [])) ty

-- `string.like`
abbrev pub like_term : List PatternPart → PlainTerm → PlainTerm
like_term p t = Application (StringLikeOp p) (terms (t ∷ [])) BoolType

-- an operator of extension types, with the type that it gives
abbrev pub extension_term : ExtensionOp → PlainTerm → PlainTerm
extension_term o t = Application (ExtOp o) (terms (t ∷ [])) (extension_signature o).1
