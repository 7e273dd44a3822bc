-- The folding of operators whose value at literals another call answers.
use Rattle.std.specs.Prelude.{◌≡◌, ◌≢◌, ◌⊎◌, ℤ, ℕ, Bool, true, [], ◌∷◌, Option, Some, None, Result, Ok, Err}
use Rattle.smt_bits.specs.BitVec.{number_of, width_of}
use Rattle.law_numbers.specs.BitVectors as bits
use Rattle.smt_bits.specs.declared.bitvec.BitVec.{BitVec}
use Rattle.smt_bits.specs.declared.error.BitVecError.{BitVecError}
use Rattle.law_folding.specs.Applications.{truth_literal, bits_literal, bits_of_two, test_of_two}
use Rattle.law_folding.specs.Parts.{bits_inside}
use Rattle.law_terms.specs.Operators.{apply, number, width}
use Rattle.law_terms.specs.Tables.{Interpretation}
use Rattle.law_terms.specs.Plain.{BitVecType, BoolType, PlainOp, PlainTerm}
use Rattle.law_terms.specs.Values.{Value, BoolValue, BitVecValue}

-- the literal with a bitvector's width and number
abbrev pub literal_of : BitVec → PlainTerm
literal_of b = bits_literal (width_of b) (number_of b)

-- not both terms are literals of bits
abbrev pub NotTwoLiterals : PlainTerm → PlainTerm → Type 0
NotTwoLiterals t u = (bits_inside t ≡ None) ⊎ (bits_inside u ≡ None)

-- ---- what a call may answer at two literals

-- it may give this answer at the literals t and u
pub record AnswersAt {X : Type 0} (answers : BitVec → BitVec → Result X BitVecError → Type 0) (t u : PlainTerm) (r : Result X BitVecError) :
    Type 0 where
  pub left : BitVec
  pub right : BitVec
  pub first : t ≡ literal_of left
  pub second : u ≡ literal_of right
  pub gives : answers left right r

-- it may refuse at t and u, or they are not two literals
abbrev pub RefusesAt : {X : Type 0} → (BitVec → BitVec → Result X BitVecError → Type 0) → PlainTerm → PlainTerm → Type 0
RefusesAt answers t u = ((e : BitVecError) × AnswersAt answers t u (Err e)) ⊎ NotTwoLiterals t u

-- ---- operators from bits to bits

-- the folded term is the literal of what the call answers at two literals; where it refuses, and at all else, the application
abbrev pub IsFoldedBy : (BitVec → BitVec → Result BitVec BitVecError → Type 0) → PlainOp → PlainTerm → PlainTerm → PlainTerm → Type 0
IsFoldedBy answers o t u r =
    ((c : BitVec) × AnswersAt answers t u (Ok c) × (r ≡ literal_of c)) ⊎ (RefusesAt answers t u × (r ≡ bits_of_two o t u))

-- the operator at two bitvectors
abbrev pub value_at : Interpretation → PlainOp → BitVec → BitVec → Value
value_at I o a b =
    apply I o (BitVecType (width_of a)) (BitVecValue (width_of a) (number_of a) ∷ BitVecValue (width_of b) (number_of b) ∷ [])

-- c is the operator's value at a and b, with the width of a: its width and its number are those of the value
pub record IsValue (o : PlainOp) (a b c : BitVec) : Type 0 where
  pub same_width : width_of c ≡ width_of a
  pub value_width : (I : Interpretation) → width (value_at I o a b) ≡ width_of a
  pub value_number : (I : Interpretation) → number (value_at I o a b) ≡ number_of c

-- on equal widths the call refuses or answers the operator's value
abbrev pub AnswersValues : (BitVec → BitVec → Result BitVec BitVecError → Type 0) → PlainOp → Type 0
AnswersValues answers o = (a b c : BitVec) → width_of a ≡ width_of b → answers a b (Ok c) → IsValue o a b c

-- ---- tests of bits

-- the same with a truth value for an answer
abbrev pub IsTestedBy : (BitVec → BitVec → Result Bool BitVecError → Type 0) → PlainOp → PlainTerm → PlainTerm → PlainTerm → Type 0
IsTestedBy answers o t u r =
    ((c : Bool) × AnswersAt answers t u (Ok c) × (r ≡ truth_literal c)) ⊎ (RefusesAt answers t u × (r ≡ test_of_two o t u))

-- ---- tests whether a signed result leaves the signed range

-- a result that is none, or outside the range of n bits
abbrev pub leaves : ℕ → Option ℤ → Bool
leaves n None = true
leaves n (Some z) = bits.overflows n z

-- two literals of one width, and whether what a call may answer at their signed values leaves the range
pub record LeavesAt (answers : ℤ → ℤ → Option ℤ → Type 0) (t u : PlainTerm) (o : Bool) : Type 0 where
  pub left : BitVec
  pub right : BitVec
  pub answer : Option ℤ
  pub first : t ≡ literal_of left
  pub second : u ≡ literal_of right
  pub widths : width_of left ≡ width_of right
  pub gives : answers (bits.signed (width_of left) (number_of left)) (bits.signed (width_of left) (number_of right)) answer
  pub tells : o ≡ leaves (width_of left) answer

-- two literals whose widths differ
pub record OfTwoWidths (t u : PlainTerm) : Type 0 where
  pub left : BitVec
  pub right : BitVec
  pub first : t ≡ literal_of left
  pub second : u ≡ literal_of right
  pub widths : width_of left ≢ width_of right

-- the folded term is, at two literals of one width, whether what the call answers leaves the range; at all else the application
abbrev pub IsOverflowBy : (ℤ → ℤ → Option ℤ → Type 0) → PlainOp → PlainTerm → PlainTerm → PlainTerm → Type 0
IsOverflowBy answers op t u r =
    ((o : Bool) × LeavesAt answers t u o × (r ≡ truth_literal o))
    ⊎ ((OfTwoWidths t u ⊎ NotTwoLiterals t u) × (r ≡ test_of_two op t u))

-- at two bitvectors of one width the operator's value is whether the call's answer leaves the range
abbrev pub TellsOverflow : (ℤ → ℤ → Option ℤ → Type 0) → PlainOp → Type 0
TellsOverflow answers o =
    (a b : BitVec) (z : Option ℤ) → width_of a ≡ width_of b →
    answers (bits.signed (width_of a) (number_of a)) (bits.signed (width_of a) (number_of b)) z
    → (I : Interpretation) →
    apply I o BoolType (BitVecValue (width_of a) (number_of a) ∷ BitVecValue (width_of a) (number_of b) ∷ [])
    ≡ BoolValue (leaves (width_of a) z)
