-- Clauses of quotients and remainders: a quotient times the divisor and the remainder make the dividend, in twice the width.
use Rattle.std.specs.Prelude.{◌+◌, ◌^◌, ◌-◌, ℕ, List, [], ◌∷◌}
use Rattle.law_numbers.specs.BitOperators.{BvaddOp, BvmulOp, BvudivOp, BvuremOp, BvultOp}
use Rattle.law_terms.specs.Plain.{PlainTerm}
use Rattle.law_terms.specs.TypeValues.{Enums}
use Rattle.law_clauses.specs.Applications.{bits_term, number_term, test_term, wide}
use Rattle.law_clauses.specs.Bits.{AreOfWidth}
use Rattle.law_clauses.specs.Sequents.{AreValid, Sequent, either, implies}
use Rattle.law_clauses.specs.Statements.{Atom, TruthOf, same_terms}

-- the quotient
abbrev pub quotient_term : ℕ → PlainTerm → PlainTerm → PlainTerm
quotient_term n a b = bits_term n BvudivOp a b

-- the remainder
abbrev pub remainder_term : ℕ → PlainTerm → PlainTerm → PlainTerm
remainder_term n a b = bits_term n BvuremOp a b

-- the quotient times the divisor, in twice the width, where nothing is lost
abbrev pub multiple_term : ℕ → PlainTerm → PlainTerm → PlainTerm
multiple_term n a b = bits_term (n + n) BvmulOp (wide n (quotient_term n a b)) (wide n b)

-- and the remainder added
abbrev pub made_again : ℕ → PlainTerm → PlainTerm → PlainTerm
made_again n a b = bits_term (n + n) BvaddOp (multiple_term n a b) (wide n (remainder_term n a b))

-- a bitvector is 0
abbrev pub is_zero : ℕ → PlainTerm → Atom
is_zero n b = same_terms b (number_term n 0)

-- by 0 the quotient is all ones and the remainder the dividend; else they make the dividend, and the remainder is less than the divisor
abbrev pub quotient_clauses : ℕ → PlainTerm → PlainTerm → List Sequent
quotient_clauses n a b =
    implies (is_zero n b) (same_terms (quotient_term n a b) (number_term n (2 ^ n - 1))) ∷
    implies (is_zero n b) (same_terms (remainder_term n a b) a) ∷
    either (is_zero n b) (same_terms (wide n a) (made_again n a b)) ∷
    either (is_zero n b) (TruthOf (test_term BvultOp (remainder_term n a b) b)) ∷ []

-- all of these are valid of bitvectors of n bits
abbrev pub QuotientsAreValid : Type 0
QuotientsAreValid =
    (enums : Enums) (roots : List PlainTerm) (n : ℕ) (a b : PlainTerm)
    → AreOfWidth enums roots n a b → AreValid enums roots (quotient_clauses n a b)
