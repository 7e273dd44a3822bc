-- Facts of the table of operators that are shown operator by operator.
use Rattle.std.proofs.Common.{◌≡◌, ℕ, ◌^◌, ◌<◌, [], ◌∷◌, get_or, refl}
use Rattle.std.specs.List.{AllByRecursion}
use Rattle.std.specs.Ordering.{nat_cmp}
use Rattle.std.specs.declared.cmp.Ordering.TheVariants.{Equal}
use Rattle.law_numbers.specs.BitOperators.{BitsOperator, TestOperator, OverflowOperator, bits_entry, test_entry, overflow_entry, bits_operators, test_operators, overflow_operators, BvaddOp, BvlshrOp, BvmulOp, BvsdivOp, BvshlOp, BvsmodOp, BvsremOp, BvsubOp, BvudivOp, BvuremOp, BvsleOp, BvsltOp, BvuleOp, BvultOp, BvsaddoOp, BvsmuloOp, BvssuboOp}
use Rattle.law_numbers.proofs.BitRanges as ranges

-- what holds of each operator of a class's list holds of all of the class
pub each_bits : (P : BitsOperator → Type 0) → AllByRecursion P bits_operators → (o : BitsOperator) → P o
each_bits P all BvaddOp = all.0
each_bits P all BvlshrOp = all.1.0
each_bits P all BvmulOp = all.1.1.0
each_bits P all BvsdivOp = all.1.1.1.0
each_bits P all BvshlOp = all.1.1.1.1.0
each_bits P all BvsmodOp = all.1.1.1.1.1.0
each_bits P all BvsremOp = all.1.1.1.1.1.1.0
each_bits P all BvsubOp = all.1.1.1.1.1.1.1.0
each_bits P all BvudivOp = all.1.1.1.1.1.1.1.1.0
each_bits P all BvuremOp = all.1.1.1.1.1.1.1.1.1.0

pub each_test : (P : TestOperator → Type 0) → AllByRecursion P test_operators → (o : TestOperator) → P o
each_test P all BvsleOp = all.0
each_test P all BvsltOp = all.1.0
each_test P all BvuleOp = all.1.1.0
each_test P all BvultOp = all.1.1.1.0

pub each_overflow : (P : OverflowOperator → Type 0) → AllByRecursion P overflow_operators → (o : OverflowOperator) → P o
each_overflow P all BvsaddoOp = all.0
each_overflow P all BvsmuloOp = all.1.0
each_overflow P all BvssuboOp = all.1.1.0

-- the result of an operator from bits to bits is below 2 to the width
pub bits_entry-below : (o : BitsOperator) (n a b : ℕ) → a < 2 ^ n → b < 2 ^ n → (bits_entry o).function n a b < 2 ^ n
bits_entry-below = each_bits (λ o. (n a b : ℕ) → a < 2 ^ n → b < 2 ^ n → (bits_entry o).function n a b < 2 ^ n)
    (ranges.bvadd-below, (ranges.bvlshr-below, (ranges.bvmul-below, (ranges.bvsdiv-below, (ranges.bvshl-below, (ranges.bvsmod-below, (ranges.bvsrem-below, (ranges.bvsub-below, (ranges.bvudiv-below, (ranges.bvurem-below, tt))))))))))

-- two operators of a class at one place are one
pub bits_same : (o p : BitsOperator) → nat_cmp (bits_entry o).place (bits_entry p).place ≡ Equal → o ≡ p
bits_same BvaddOp BvaddOp h = refl
bits_same BvlshrOp BvlshrOp h = refl
bits_same BvmulOp BvmulOp h = refl
bits_same BvsdivOp BvsdivOp h = refl
bits_same BvshlOp BvshlOp h = refl
bits_same BvsmodOp BvsmodOp h = refl
bits_same BvsremOp BvsremOp h = refl
bits_same BvsubOp BvsubOp h = refl
bits_same BvudivOp BvudivOp h = refl
bits_same BvuremOp BvuremOp h = refl
bits_same o p h = cc

pub test_same : (o p : TestOperator) → nat_cmp (test_entry o).place (test_entry p).place ≡ Equal → o ≡ p
test_same BvsleOp BvsleOp h = refl
test_same BvsltOp BvsltOp h = refl
test_same BvuleOp BvuleOp h = refl
test_same BvultOp BvultOp h = refl
test_same o p h = cc

pub overflow_same : (o p : OverflowOperator) → nat_cmp (overflow_entry o).place (overflow_entry p).place ≡ Equal → o ≡ p
overflow_same BvsaddoOp BvsaddoOp h = refl
overflow_same BvsmuloOp BvsmuloOp h = refl
overflow_same BvssuboOp BvssuboOp h = refl
overflow_same o p h = cc

-- the class of the operator at each place
pub data OperatorClass : Type 0 where
  InNone : OperatorClass
  InBits : OperatorClass
  InTests : OperatorClass
  InOverflows : OperatorClass

abbrev pub class_at : ℕ → OperatorClass
class_at place =
    get_or (InNone ∷ InBits ∷ InBits ∷ InBits ∷ InNone ∷ InNone ∷ InOverflows ∷ InBits ∷ InBits ∷ InTests ∷ InTests ∷ InBits ∷ InOverflows ∷ InBits ∷ InOverflows ∷ InBits ∷ InBits ∷ InTests ∷ InTests ∷ InBits ∷ []) place InNone

pub bits_class : (o : BitsOperator) → class_at (bits_entry o).place ≡ InBits
bits_class = each_bits (λ o. class_at (bits_entry o).place ≡ InBits) (refl, (refl, (refl, (refl, (refl, (refl, (refl, (refl, (refl, (refl, tt))))))))))

pub test_class : (o : TestOperator) → class_at (test_entry o).place ≡ InTests
test_class = each_test (λ o. class_at (test_entry o).place ≡ InTests) (refl, (refl, (refl, (refl, tt))))

pub overflow_class : (o : OverflowOperator) → class_at (overflow_entry o).place ≡ InOverflows
overflow_class = each_overflow (λ o. class_at (overflow_entry o).place ≡ InOverflows) (refl, (refl, (refl, tt)))
