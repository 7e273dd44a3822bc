-- The operators that have a circuit.
use Rattle.law_numbers.specs.BitOperators.{BvaddOp, BvlshrOp, BvshlOp, BvsubOp, BvsleOp, BvsltOp, BvuleOp, BvultOp, BvsaddoOp, BvssuboOp}
use Rattle.law_numbers.specs.BitOperators.{TestOperator}
use Rattle.law_terms.specs.Plain.{PlainOp, AndOp, BitsOp, BvnegOp, BvnegoOp, EqOp, IteOp, NotOp, OrOp, OverflowOp, TestOp, ZeroExtendOp}
use Rattle.smt_blast.specs.declared.circuit.Chain.TheVariants.{Carry, Borrow}
use Rattle.smt_blast.specs.declared.circuit.Circuit.{Circuit}
use Rattle.smt_blast.specs.declared.circuit.Circuit.TheVariants.{Logic, Equal, Choice, Sum, Overflow, Negation, NegationOverflow, Shift}
use Rattle.smt_blast.specs.declared.circuit.Circuit.TheVariants.{Test, ZeroExtension}
use Rattle.smt_blast.specs.declared.circuit.Comparison.{Comparison}
use Rattle.smt_blast.specs.declared.circuit.Comparison.TheVariants.{SignedAtMost, SignedLess, AtMost, Less}
use Rattle.smt_blast.specs.declared.circuit.Connective.{Connective}
use Rattle.smt_blast.specs.declared.circuit.Connective.TheVariants.{And, Not, Or}
use Rattle.smt_blast.specs.declared.circuit.Direction.TheVariants.{Up, Down}

-- the test of a comparison
abbrev pub test_of : Comparison → TestOperator
test_of SignedAtMost = BvsleOp
test_of SignedLess = BvsltOp
test_of AtMost = BvuleOp
test_of Less = BvultOp

-- the operator of a connective
abbrev pub connective_of : Connective → PlainOp
connective_of And = AndOp
connective_of Not = NotOp
connective_of Or = OrOp

-- the operator of a circuit
abbrev pub operator_of : Circuit → PlainOp
operator_of (Logic connective) = connective_of connective
operator_of Equal = EqOp
operator_of Choice = IteOp
operator_of (Sum Carry) = BitsOp BvaddOp
operator_of (Sum Borrow) = BitsOp BvsubOp
operator_of (Overflow Carry) = OverflowOp BvsaddoOp
operator_of (Overflow Borrow) = OverflowOp BvssuboOp
operator_of Negation = BvnegOp
operator_of NegationOverflow = BvnegoOp
operator_of (Shift Up) = BitsOp BvshlOp
operator_of (Shift Down) = BitsOp BvlshrOp
operator_of (Test test) = TestOp (test_of test)
operator_of (ZeroExtension k) = ZeroExtendOp k
