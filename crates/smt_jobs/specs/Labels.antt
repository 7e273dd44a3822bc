-- What terms and their labels tell of foldings.
use Rattle.std.specs.Prelude.{Bool, true, false, not, ◌&&◌, ◌||◌}
use Rattle.law_terms.specs.Nodes.{PlainLabel, ApplicationLabel, BitVecLabel, CallLabel, LiteralLabel, VariableLabel}
use Rattle.law_terms.specs.Plain.{PlainOp, AndOp, BvnegOp, BvnegoOp, EqOp, IteOp, NotOp, OrOp, BitsOp, OverflowOp, TestOp, BoolLiteral}
use Rattle.law_terms.specs.Plain.{PlainTerm, Application, LiteralTerm, VariableTerm}

-- a variable or an application, of which no folding knows the value
abbrev pub is_open : PlainTerm → Bool
is_open (Application o ts t) = true
is_open (VariableTerm id t) = true
is_open t = false

-- the literal true or the literal false
abbrev pub is_truth : PlainTerm → Bool
is_truth (LiteralTerm (BoolLiteral b)) = true
is_truth t = false

-- a negation of truth values
abbrev pub is_negation : PlainTerm → Bool
is_negation (Application NotOp ts t) = true
is_negation t = false

-- a negation of bitvectors
abbrev pub is_bits_negation : PlainTerm → Bool
is_bits_negation (Application BvnegOp ts t) = true
is_bits_negation t = false

-- a variable, or an application that is no negation
abbrev pub is_plain : PlainTerm → Bool
is_plain t = is_open t && not (is_negation t || is_bits_negation t)

-- the label of a variable or of an application
abbrev pub is_open_label : PlainLabel → Bool
is_open_label (ApplicationLabel o) = true
is_open_label CallLabel = true
is_open_label (VariableLabel id) = true
is_open_label l = false

-- the label of the literal true or of the literal false
abbrev pub is_truth_label : PlainLabel → Bool
is_truth_label (LiteralLabel (BoolLiteral b)) = true
is_truth_label l = false

-- the label of negations of truth values
abbrev pub is_negation_label : PlainLabel → Bool
is_negation_label (ApplicationLabel NotOp) = true
is_negation_label l = false

-- the label of negations of bitvectors
abbrev pub is_bits_negation_label : PlainLabel → Bool
is_bits_negation_label (ApplicationLabel BvnegOp) = true
is_bits_negation_label l = false

-- the label of a type of bitvectors
abbrev pub is_bits_type_label : PlainLabel → Bool
is_bits_type_label (BitVecLabel n) = true
is_bits_type_label l = false

-- `and` or `or`
abbrev pub is_connective : PlainOp → Bool
is_connective AndOp = true
is_connective OrOp = true
is_connective o = false

-- an operator from two bitvectors to one
abbrev pub is_bits_operator : PlainOp → Bool
is_bits_operator (BitsOp o) = true
is_bits_operator o = false

-- a test of two bitvectors: a comparison, or whether an operation overflows
abbrev pub is_bits_test : PlainOp → Bool
is_bits_test (TestOp o) = true
is_bits_test (OverflowOp o) = true
is_bits_test o = false

-- an operator of one operand that is applied without the factory
abbrev pub is_unary : PlainOp → Bool
is_unary NotOp = true
is_unary BvnegOp = true
is_unary BvnegoOp = true
is_unary o = false

-- `eq`
abbrev pub is_equality : PlainOp → Bool
is_equality EqOp = true
is_equality o = false

-- `ite`
abbrev pub is_choice : PlainOp → Bool
is_choice IteOp = true
is_choice o = false

-- an operator of two operands that is applied without the factory
abbrev pub is_binary : PlainOp → Bool
is_binary o = is_connective o || (is_equality o || (is_bits_operator o || is_bits_test o))
