-- Clauses of signed quotients and remainders: each is the same as a term of unsigned ones, negations and choices.
use Rattle.std.specs.Prelude.{List, [], ◌∷◌, ℕ}
use Rattle.law_numbers.specs.BitOperators.{BvaddOp, BvsdivOp, BvsmodOp, BvsremOp, BvsubOp}
use Rattle.law_terms.specs.Plain.{BitVecType, PlainTerm}
use Rattle.law_terms.specs.TypeValues.{Enums}
use Rattle.law_clauses.specs.Applications.{bits_term, eq_term, ite_term, magnitude_term, negated_term, negated_where, negative_term}
use Rattle.law_clauses.specs.Applications.{not_term, number_term}
use Rattle.law_clauses.specs.Bits.{AreOfWidth}
use Rattle.law_clauses.specs.Quotients.{quotient_term, remainder_term}
use Rattle.law_clauses.specs.Sequents.{AreValid, Sequent, always}
use Rattle.law_clauses.specs.Statements.{same_terms}

-- two bitvectors have one sign
abbrev pub same_signs : ℕ → PlainTerm → PlainTerm → PlainTerm
same_signs n a b = eq_term (negative_term n a) (negative_term n b)

-- the quotient of the absolute values
abbrev pub magnitude_quotient : ℕ → PlainTerm → PlainTerm → PlainTerm
magnitude_quotient n a b = quotient_term n (magnitude_term n a) (magnitude_term n b)

-- the remainder of the absolute values
abbrev pub magnitude_remainder : ℕ → PlainTerm → PlainTerm → PlainTerm
magnitude_remainder n a b = remainder_term n (magnitude_term n a) (magnitude_term n b)

-- the quotient of the absolute values, negated where the signs differ
abbrev pub signed_quotient : ℕ → PlainTerm → PlainTerm → PlainTerm
signed_quotient n a b = negated_where n (not_term (same_signs n a b)) (magnitude_quotient n a b)

-- the remainder of the absolute values, negated where the dividend is negative
abbrev pub signed_remainder : ℕ → PlainTerm → PlainTerm → PlainTerm
signed_remainder n a b = negated_where n (negative_term n a) (magnitude_remainder n a b)

-- the remainder u of the absolute values with the divisor's sign: as it is where none of the two is negative, negated where both are,
-- and else the divisor is added, to u where the divisor is negative, and to its negation where the dividend is
abbrev pub modulus_of : ℕ → PlainTerm → PlainTerm → PlainTerm → PlainTerm
modulus_of n a b u =
    ite_term (BitVecType n) (negative_term n a)
    (ite_term (BitVecType n) (negative_term n b) (negated_term n u) (bits_term n BvsubOp b u))
    (ite_term (BitVecType n) (negative_term n b) (bits_term n BvaddOp u b) u)

-- the remainder of the absolute values with the divisor's sign, and 0 where it is 0
abbrev pub signed_modulus : ℕ → PlainTerm → PlainTerm → PlainTerm
signed_modulus n a b =
    ite_term (BitVecType n) (eq_term (magnitude_remainder n a b) (number_term n 0)) (number_term n 0)
    (modulus_of n a b (magnitude_remainder n a b))

-- each is the same as its operator
abbrev pub signed_clauses : ℕ → PlainTerm → PlainTerm → List Sequent
signed_clauses n a b =
    always (same_terms (bits_term n BvsdivOp a b) (signed_quotient n a b)) ∷
    always (same_terms (bits_term n BvsremOp a b) (signed_remainder n a b)) ∷
    always (same_terms (bits_term n BvsmodOp a b) (signed_modulus n a b)) ∷ []

-- all of these are valid of bitvectors of n bits
abbrev pub SignedQuotientsAreValid : Type 0
SignedQuotientsAreValid =
    (enums : Enums) (roots : List PlainTerm) (n : ℕ) (a b : PlainTerm)
    → AreOfWidth enums roots n a b → AreValid enums roots (signed_clauses n a b)
