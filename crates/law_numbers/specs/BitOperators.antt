-- The operators of two bitvectors of one width, in three classes. A table has what there is to say of each: its name, what it
-- computes of the width and the two numbers (BitVectors), and its place in the order of operators.
use Rattle.std.specs.Prelude.{ℕ, Bool, codes, List, [], ◌∷◌}
use Rattle.law_numbers.specs.BitVectors.{bvadd, bvlshr, bvmul, bvsdiv, bvshl, bvsmod, bvsrem, bvsub, bvudiv, bvurem, bvsle, bvslt, bvule}
use Rattle.law_numbers.specs.BitVectors.{bvult, bvsaddo, bvsmulo, bvssubo}

-- From bits to bits (theory FixedSizeBitVectors and logic QF_BV). Left out are the bitwise operators, `bvashr`, `bvcomp`, rotations,
-- `repeat` and `sign_extend`.
pub data BitsOperator : Type 0 where
  BvaddOp : BitsOperator
  BvlshrOp : BitsOperator
  BvmulOp : BitsOperator
  BvsdivOp : BitsOperator
  BvshlOp : BitsOperator
  BvsmodOp : BitsOperator
  BvsremOp : BitsOperator
  BvsubOp : BitsOperator
  BvudivOp : BitsOperator
  BvuremOp : BitsOperator

-- Comparisons (theory FixedSizeBitVectors and logic QF_BV). Left out are those that are these turned round, as `bvugt`.
pub data TestOperator : Type 0 where
  BvsleOp : TestOperator
  BvsltOp : TestOperator
  BvuleOp : TestOperator
  BvultOp : TestOperator

-- Whether the exact signed result leaves the signed range of the width (theory FixedSizeBitVectors; `bvssubo` is of the logic QF_BV).
-- Left out are the overflow tests of unsigned operations.
pub data OverflowOperator : Type 0 where
  BvsaddoOp : OverflowOperator
  BvsmuloOp : OverflowOperator
  BvssuboOp : OverflowOperator

-- what a table says of an operator that gives values of the type X
pub record OperatorEntry (X : Type 0) : Type 0 where
  pub name : List ℕ
  pub function : (width left right : ℕ) → X
  pub place : ℕ

-- the table of operators from bits to bits; their places are among all operators of terms
abbrev pub bits_entry : BitsOperator → OperatorEntry ℕ
bits_entry BvaddOp = record { name = codes "bvadd"; function = bvadd; place = 1 }
bits_entry BvlshrOp = record { name = codes "bvlshr"; function = bvlshr; place = 2 }
bits_entry BvmulOp = record { name = codes "bvmul"; function = bvmul; place = 3 }
bits_entry BvsdivOp = record { name = codes "bvsdiv"; function = bvsdiv; place = 7 }
bits_entry BvshlOp = record { name = codes "bvshl"; function = bvshl; place = 8 }
bits_entry BvsmodOp = record { name = codes "bvsmod"; function = bvsmod; place = 11 }
bits_entry BvsremOp = record { name = codes "bvsrem"; function = bvsrem; place = 13 }
bits_entry BvsubOp = record { name = codes "bvsub"; function = bvsub; place = 15 }
bits_entry BvudivOp = record { name = codes "bvudiv"; function = bvudiv; place = 16 }
bits_entry BvuremOp = record { name = codes "bvurem"; function = bvurem; place = 19 }

-- the table of comparisons
abbrev pub test_entry : TestOperator → OperatorEntry Bool
test_entry BvsleOp = record { name = codes "bvsle"; function = bvsle; place = 9 }
test_entry BvsltOp = record { name = codes "bvslt"; function = bvslt; place = 10 }
test_entry BvuleOp = record { name = codes "bvule"; function = bvule; place = 17 }
test_entry BvultOp = record { name = codes "bvult"; function = bvult; place = 18 }

-- the table of overflow tests
abbrev pub overflow_entry : OverflowOperator → OperatorEntry Bool
overflow_entry BvsaddoOp = record { name = codes "bvsaddo"; function = bvsaddo; place = 6 }
overflow_entry BvsmuloOp = record { name = codes "bvsmulo"; function = bvsmulo; place = 12 }
overflow_entry BvssuboOp = record { name = codes "bvssubo"; function = bvssubo; place = 14 }

-- all operators from bits to bits
abbrev pub bits_operators : List BitsOperator
bits_operators = BvaddOp ∷ BvlshrOp ∷ BvmulOp ∷ BvsdivOp ∷ BvshlOp ∷ BvsmodOp ∷ BvsremOp ∷ BvsubOp ∷ BvudivOp ∷ BvuremOp ∷ []

-- all comparisons
abbrev pub test_operators : List TestOperator
test_operators = BvsleOp ∷ BvsltOp ∷ BvuleOp ∷ BvultOp ∷ []

-- all overflow tests
abbrev pub overflow_operators : List OverflowOperator
overflow_operators = BvsaddoOp ∷ BvsmuloOp ∷ BvssuboOp ∷ []
