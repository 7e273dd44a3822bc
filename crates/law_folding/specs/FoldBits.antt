-- The folding of the operators on bits: literals are computed with, and all else stays an application.
use Rattle.std.specs.Prelude.{ℕ, ◌+◌, ◌-◌, ◌^◌, Bool, true, cond, ◌&&◌, ◌==◌, nat_le}
use Rattle.std.specs.Option.{unwrap_or}
use Rattle.law_numbers.specs.BitOperators.{BitsOperator, TestOperator, OverflowOperator, BvlshrOp, BvshlOp, bits_entry, test_entry}
use Rattle.law_numbers.specs.BitOperators.{overflow_entry}
use Rattle.law_numbers.specs.Shifts.{greatest_shift}
use Rattle.law_numbers.specs.BitVectors as bits
use Rattle.law_folding.specs.Applications.{truth_literal, bits_literal, bvneg_of, bits_of_two, test_of_two, bvnego_of, zero_extend_of}
use Rattle.law_folding.specs.Parts.{negated_bits}
use Rattle.law_terms.specs.Types.{type_of, is_bits}
use Rattle.law_terms.specs.Plain.{PlainOp, BitVecLiteral, PlainTerm, LiteralTerm, BitsOp, TestOp, OverflowOp}

-- the negation of bits, folded: of a literal its value, of a negation what that is of; all else stays
abbrev pub folded_bvneg : PlainTerm → PlainTerm
folded_bvneg (LiteralTerm (BitVecLiteral n a)) = bits_literal n (bits.bvneg n a)
folded_bvneg t = unwrap_or (negated_bits t) (bvneg_of t)

-- Which numbers a folding takes on the right: of a shift those of 32 bits, and of any other operator all. A literal shift by more
-- stays an application, which is our own limit and not the standard's.
abbrev pub takes_right : BitsOperator → ℕ → Bool
takes_right BvshlOp b = nat_le b greatest_shift
takes_right BvlshrOp b = nat_le b greatest_shift
takes_right o b = true

-- an operator from bits to bits: two literals of one width are computed with, where it takes the second's number
abbrev pub folded_bits : BitsOperator → PlainTerm → PlainTerm → PlainTerm
folded_bits o (LiteralTerm (BitVecLiteral n a)) (LiteralTerm (BitVecLiteral m b)) =
    cond (n == m && takes_right o b) (bits_literal n ((bits_entry o).function n a b))
    (bits_of_two (BitsOp o) (bits_literal n a) (bits_literal m b))
folded_bits o t u = bits_of_two (BitsOp o) t u

-- a test of two literals of one width, by what it computes of their numbers
abbrev pub folded_test_by : PlainOp → (ℕ → ℕ → ℕ → Bool) → PlainTerm → PlainTerm → PlainTerm
folded_test_by o f (LiteralTerm (BitVecLiteral n a)) (LiteralTerm (BitVecLiteral m b)) =
    cond (n == m) (truth_literal (f n a b)) (test_of_two o (bits_literal n a) (bits_literal m b))
folded_test_by o f t u = test_of_two o t u

-- a comparison of two bitvectors, folded, by the table of comparisons
abbrev pub folded_test : TestOperator → PlainTerm → PlainTerm → PlainTerm
folded_test o = folded_test_by (TestOp o) (test_entry o).function

-- an overflow test of two bitvectors, folded, by the table of overflow tests
abbrev pub folded_overflow : OverflowOperator → PlainTerm → PlainTerm → PlainTerm
folded_overflow o = folded_test_by (OverflowOp o) (overflow_entry o).function

-- whether negation overflows, folded: of a literal whether it is the least number of its width
abbrev pub folded_bvnego : PlainTerm → PlainTerm
folded_bvnego (LiteralTerm (BitVecLiteral n a)) = truth_literal (a == 2 ^ (n - 1))
folded_bvnego t = bvnego_of t

-- bits with k zeros in front, folded: of a literal its number in a wider type. A term that is no bits is given back as it is.
abbrev pub folded_zero_extend : ℕ → PlainTerm → PlainTerm
folded_zero_extend k (LiteralTerm (BitVecLiteral n a)) = bits_literal (n + k) a
folded_zero_extend k t = cond (is_bits (type_of t)) (zero_extend_of k t) t
