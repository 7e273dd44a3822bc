-- The class of an operator, by which it is typed.
use Rattle.law_terms.specs.Plain.{PlainOp, BitsOp, TestOp, OverflowOp}
use Rattle.smt_term.specs.declared.op.OpClass.{OpClass}
use Rattle.smt_term.specs.declared.op.OpClass.TheVariants.{Bits, Test, Other}

-- the class of an operator: from two bitvectors to one, a test of two bitvectors, or any other
abbrev pub class_of : PlainOp → OpClass
class_of (BitsOp o) = Bits
class_of (TestOp o) = Test
class_of (OverflowOp o) = Test
class_of o = Other
