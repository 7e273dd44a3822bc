-- Clauses of signed products that leave their range: the product of the absolute values is compared, in twice the width.
use Rattle.std.specs.Prelude.{◌+◌, ◌-◌, ◌^◌, ℕ, List}
use Rattle.law_numbers.specs.BitOperators.{BvmulOp, BvsmuloOp, BvuleOp, BvultOp}
use Rattle.law_terms.specs.Plain.{BoolType, PlainTerm}
use Rattle.law_terms.specs.TypeValues.{Enums}
use Rattle.law_clauses.specs.Applications.{bits_term, ite_term, magnitude_term, number_term, overflow_term, test_term, wide}
use Rattle.law_clauses.specs.Bits.{AreOfWidth}
use Rattle.law_clauses.specs.Sequents.{IsValid, Sequent, always}
use Rattle.law_clauses.specs.SignedQuotients.{same_signs}
use Rattle.law_clauses.specs.Statements.{same_terms}

-- the product of the absolute values, in twice the width, where nothing is lost
abbrev pub magnitude_product : ℕ → PlainTerm → PlainTerm → PlainTerm
magnitude_product n a b = bits_term (n + n) BvmulOp (wide n (magnitude_term n a)) (wide n (magnitude_term n b))

-- the least number that is too great for n bits with a sign, and the negation of which is not, in twice the width
abbrev pub limit_term : ℕ → PlainTerm
limit_term n = number_term (n + n) (2 ^ (n - 1))

-- the product of the absolute values is not below the limit where the signs are the same, and above it where they differ
abbrev pub product_overflows : ℕ → PlainTerm → PlainTerm → PlainTerm
product_overflows n a b =
    ite_term BoolType (same_signs n a b)
    (test_term BvuleOp (limit_term n) (magnitude_product n a b))
    (test_term BvultOp (limit_term n) (magnitude_product n a b))

-- `bvsmulo` is the same
abbrev pub overflow_of_product : ℕ → PlainTerm → PlainTerm → Sequent
overflow_of_product n a b = always (same_terms (overflow_term BvsmuloOp a b) (product_overflows n a b))

-- it is valid of bitvectors of n bits
abbrev pub ProductOverflowsAreValid : Type 0
ProductOverflowsAreValid =
    (enums : Enums) (roots : List PlainTerm) (n : ℕ) (a b : PlainTerm)
    → AreOfWidth enums roots n a b → IsValid enums roots (overflow_of_product n a b)
