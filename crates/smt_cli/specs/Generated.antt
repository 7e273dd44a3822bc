-- Large jobs, each made from a number, its seed.
use Rattle.std.specs.Prelude.{ℕ, zero, suc, ◌+◌, ◌*◌, ◌%◌, ◌^◌, ◌≡◌, codes, map, List, [], ◌∷◌, ◌++◌}
use Rattle.law_numbers.specs.BitOperators.{BvaddOp, BvsltOp}
use Rattle.law_folding.specs.Applications.{bits_literal, bits_of_two, test_of_two}
use Rattle.law_folding.specs.Built.{built}
use Rattle.law_terms.specs.Plain.{PlainType, BitVecType, BitsOp, PlainTerm, TestOp, VariableTerm}
use Rattle.law_theorem.specs.Conditions.{AreConditions}

-- ---- the numbers

-- the number behind a number: multiplied by one constant and added to another, modulo 2 to the 64
abbrev pub next_number : ℕ → ℕ
next_number s = (s * 6364136223846793005 + 1442695040888963407) % 2 ^ 64

-- the number that so many steps give, beginning from the seed
abbrev pub number_after : (seed steps : ℕ) → ℕ
number_after seed zero = seed
number_after seed (suc k) = next_number (number_after seed k)

-- ---- the variables, `x0` to `x7`, of 64 bits

-- the type of bitvectors of 64 bits
abbrev pub long_type : PlainType
long_type = BitVecType 64

-- the id of the variable of a number, which is one digit
abbrev pub variable_id : ℕ → List ℕ
variable_id i = codes "x" ++ (48 + i) ∷ []

-- the variables of the numbers below a number, in order
abbrev pub variables_below : ℕ → List (List ℕ × PlainType)
variables_below zero = []
variables_below (suc i) = variables_below i ++ (variable_id i, long_type) ∷ []

-- the eight variables of a generated job, `x0` to `x7`
abbrev pub generated_variables : List (List ℕ × PlainType)
generated_variables = variables_below 8

-- ---- the terms

-- one of the variables: those behind `x7` begin from `x0` again
abbrev pub variable_at : ℕ → PlainTerm
variable_at k = VariableTerm (variable_id (k % 8)) long_type

-- the sum of two variables, one behind the other
abbrev pub sum_at : (place : ℕ) → PlainTerm
sum_at k = bits_of_two (BitsOp BvaddOp) (variable_at k) (variable_at (k + 1))

-- whether such a sum is less than a number, in two's complement
abbrev pub comparison : (place number : ℕ) → PlainTerm
comparison k n = test_of_two (TestOp BvsltOp) (sum_at k) (bits_literal 64 n)

-- The term of place k: whether the sum of the variables k and k + 1, counted modulo 8, is less in two's complement
-- than the number k + 1 steps behind the seed.
abbrev pub generated_term : (seed place : ℕ) → PlainTerm
generated_term seed k = comparison k (number_after seed (suc k))

-- the terms of the places below a number, in order
abbrev pub generated_terms : (seed count : ℕ) → List PlainTerm
generated_terms seed zero = []
generated_terms seed (suc k) = generated_terms seed k ++ generated_term seed k ∷ []

-- ---- what holds of the terms

-- They are conditions, and nothing of them is folded.
pub record AreBuiltConditions (terms : List PlainTerm) : Type 0 where
  pub conditions : AreConditions [] terms
  pub as_built : map built terms ≡ terms

-- The terms of every seed and count are so.
abbrev pub GeneratedTermsAreConditions : Type 0
GeneratedTermsAreConditions = (seed count : ℕ) → AreBuiltConditions (generated_terms seed count)
