-- Which terms are blasted, and the first reason why a term is not: of its type, then of its parts from the left, then of itself.
use Rattle.std.specs.Prelude.{Bool, true, false, List, [], ◌∷◌, Option, Some, None}
use Rattle.std.specs.Option.{option_or}
use Rattle.law_numbers.specs.BitOperators.{BitsOperator, BvaddOp, BvlshrOp, BvshlOp, BvsubOp, OverflowOperator, BvsaddoOp, BvssuboOp}
use Rattle.law_terms.specs.Types.{literal_type, type_of}
use Rattle.law_terms.specs.Plain.{PlainType, BitVecType, BoolType, PlainOp, AndOp, BitsOp, BvnegOp, BvnegoOp, EqOp, IteOp, NotOp, OrOp}
use Rattle.law_terms.specs.Plain.{OverflowOp, TestOp, ZeroExtendOp, PlainTerm, Application, LiteralTerm, VariableTerm, PlainTerms, no_terms}
use Rattle.law_terms.specs.Plain.{one_term}

-- why a term is not blasted: an operator without a circuit, or a type that is neither Bool nor bitvectors
pub data Refusal : Type 0 where
  UnsupportedOperator : PlainOp → Refusal
  UnsupportedType : PlainType → Refusal

-- the operators from bits to bits with a circuit: of products, quotients and remainders there is none
abbrev pub is_supported_on_bits : BitsOperator → Bool
is_supported_on_bits BvaddOp = true
is_supported_on_bits BvsubOp = true
is_supported_on_bits BvshlOp = true
is_supported_on_bits BvlshrOp = true
is_supported_on_bits o = false

-- the overflow tests with a circuit: of products there is none
abbrev pub is_supported_overflow : OverflowOperator → Bool
is_supported_overflow BvsaddoOp = true
is_supported_overflow BvssuboOp = true
is_supported_overflow o = false

-- operators of Booleans, two of them also of bitvectors
abbrev pub is_connective : PlainOp → Bool
is_connective NotOp = true
is_connective AndOp = true
is_connective OrOp = true
is_connective EqOp = true
is_connective IteOp = true
is_connective o = false

-- all operators that are blasted: those with a circuit
abbrev pub is_supported : PlainOp → Bool
is_supported BvnegOp = true
is_supported BvnegoOp = true
is_supported (BitsOp o) = is_supported_on_bits o
is_supported (TestOp o) = true
is_supported (OverflowOp o) = is_supported_overflow o
is_supported (ZeroExtendOp k) = true
is_supported o = is_connective o

-- the refusal of a type: Booleans and bitvectors are blasted
abbrev pub type_refusal : PlainType → Option Refusal
type_refusal BoolType = None
type_refusal (BitVecType n) = None
type_refusal t = Some (UnsupportedType t)

-- the refusal of an operator without a circuit
abbrev pub operator_refusal : PlainOp → Option Refusal
operator_refusal o = elim (is_supported o) [ true ↦ None | false ↦ Some (UnsupportedOperator o) ]

abbrev mutual
  -- the first refusal of a term: of its type, then of its parts from the left, then of its operator
  pub term_refusal : PlainTerm → Option Refusal
  term_refusal (Application o ts t) = option_or (type_refusal t) (option_or (terms_refusal ts) (operator_refusal o))
  term_refusal (LiteralTerm l) = type_refusal (literal_type l)
  term_refusal (VariableTerm id t) = type_refusal t
  term_refusal t = type_refusal (type_of t)

  -- the first refusal of terms
  pub terms_refusal : PlainTerms → Option Refusal
  terms_refusal no_terms = None
  terms_refusal (one_term t ts) = option_or (term_refusal t) (terms_refusal ts)

-- the first refusal of a list of whole terms
abbrev pub first_refusal : List PlainTerm → Option Refusal
first_refusal [] = None
first_refusal (t ∷ ts) = option_or (term_refusal t) (first_refusal ts)
