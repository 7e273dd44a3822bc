-- Which operators on bits take two numbers of one width, and what they compute.
use Rattle.std.specs.Prelude.{ℕ, Bool, Option, Some, None}
use Rattle.law_numbers.specs.BitOperators.{bits_entry, test_entry, overflow_entry}
use Rattle.law_terms.specs.Plain.{PlainOp, BitsOp, TestOp, OverflowOp}

-- the operators from two numbers of a width to one of it
abbrev pub bit_function : PlainOp → Option (ℕ → ℕ → ℕ → ℕ)
bit_function (BitsOp o) = Some (bits_entry o).function
bit_function op = None

-- the operators from two numbers of a width to a Boolean
abbrev pub bit_test : PlainOp → Option (ℕ → ℕ → ℕ → Bool)
bit_test (TestOp o) = Some (test_entry o).function
bit_test (OverflowOp o) = Some (overflow_entry o).function
bit_test op = None
