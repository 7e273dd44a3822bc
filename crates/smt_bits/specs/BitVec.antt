-- What contracts see of a bitvector: its width and its number.
use Rattle.std.specs.Prelude.{◌≡◌, ◌≢◌, ℕ, ◌<◌}
use Rattle.law_numbers.specs.Shifts.{greatest_shift}
use Rattle.smt_bits.specs.declared.bitvec.BitVec.{BitVec}
use Rattle.smt_bits.specs.declared.error.BvCall.{BvCall}
use Rattle.smt_bits.specs.declared.error.BitVecError.{BitVecError}
use Rattle.smt_bits.specs.declared.error.BitVecError.TheVariants.{MismatchedWidths, ShiftAmountTooLarge, ExtractOutOfBounds, WidthTooLarge}

-- the number of bits, from 1 to 128
abbrev pub width_of : BitVec → ℕ
width_of b = b.width.bits

-- the bits read as a number below 2 to the width (bv2nat of the theory FixedSizeBitVectors)
abbrev pub number_of : BitVec → ℕ
number_of b = b.number

-- a call refuses for its widths: they differ, and the refusal names the call
abbrev pub IsMismatch : BvCall → BitVec → BitVec → BitVecError → Type 0
IsMismatch call lhs rhs e = (e ≡ MismatchedWidths call) × (width_of lhs ≢ width_of rhs)

-- a shift refuses: for its widths, and where they are equal for a number of places above the greatest one
abbrev pub RefusesShift : BvCall → BitVec → BitVec → BitVecError → Type 0
RefusesShift call lhs rhs (MismatchedWidths named) = (named ≡ call) × (width_of lhs ≢ width_of rhs)
RefusesShift call lhs rhs ShiftAmountTooLarge = (width_of lhs ≡ width_of rhs) × (greatest_shift < number_of rhs)
RefusesShift call lhs rhs ExtractOutOfBounds = ⊥
RefusesShift call lhs rhs WidthTooLarge = ⊥
