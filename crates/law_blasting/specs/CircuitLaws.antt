-- What circuits compute.
use Rattle.std.specs.Prelude.{◌≡◌, suc, ℕ, ◌%◌, ◌^◌, ◌==◌, Bool, false, List, length, nat_lt}
use Rattle.law_numbers.specs.BitVectors.{bvadd, bvlshr, bvneg, bvnego, bvsaddo, bvshl, bvslt, bvssubo, bvsub}
use Rattle.law_blasting.specs.Circuits.{truth_gates, number, number_bits, sum, borrows_differ, carries_differ, difference, borrow_out, down}
use Rattle.law_blasting.specs.Circuits.{equal, extended, shift, up, with_top, zeros}

-- a ripple-carry adder gives the sum modulo 2 to the width (`bvadd` of the theory FixedSizeBitVectors)
abbrev pub SumsAreAdded : Type 0
SumsAreAdded =
    (xs ys : List Bool) → length xs ≡ length ys → number (sum truth_gates xs ys false) ≡ bvadd (length xs) (number xs) (number ys)

-- a ripple-borrow subtractor gives the difference modulo 2 to the width (`bvsub`)
abbrev pub DifferencesAreTaken : Type 0
DifferencesAreTaken =
    (xs ys : List Bool) → length xs ≡ length ys → number (difference truth_gates xs ys false) ≡ bvsub (length xs) (number xs) (number ys)

-- a subtractor borrows out of the highest place exactly where the first number is less
abbrev pub LessIsBorrowed : Type 0
LessIsBorrowed = (xs ys : List Bool) → length xs ≡ length ys → borrow_out truth_gates xs ys false ≡ nat_lt (number xs) (number ys)

-- a barrel shifter shifts up by any number of places, as `bvshl` does
abbrev pub ShiftsGoUp : Type 0
ShiftsGoUp =
    (xs ys : List Bool) → number (shift truth_gates (up truth_gates) (length xs) 1 ys xs) ≡ bvshl (length xs) (number xs) (number ys)

-- a barrel shifter shifts down by any number of places, as `bvlshr` does
abbrev pub ShiftsGoDown : Type 0
ShiftsGoDown =
    (xs ys : List Bool) → number (shift truth_gates (down truth_gates) (length xs) 1 ys xs) ≡ bvlshr (length xs) (number xs) (number ys)

-- with the two highest bits exchanged, a subtractor borrows exactly where the first is less in two's complement (`bvslt`)
abbrev pub LessIsSigned : Type 0
LessIsSigned =
    (xs ys : List Bool) (k : ℕ) → length xs ≡ suc k → length ys ≡ suc k →
    borrow_out truth_gates (with_top xs ys) (with_top ys xs) false ≡ bvslt (suc k) (number xs) (number ys)

-- a sum leaves the signed range exactly where the two highest carries differ (`bvsaddo`)
abbrev pub SumsOverflow : Type 0
SumsOverflow =
    (xs ys : List Bool) (k : ℕ) → length xs ≡ suc k → length ys ≡ suc k →
    carries_differ truth_gates xs ys false ≡ bvsaddo (suc k) (number xs) (number ys)

-- a difference leaves the signed range exactly where the two highest borrows differ (`bvssubo`)
abbrev pub DifferencesOverflow : Type 0
DifferencesOverflow =
    (xs ys : List Bool) (k : ℕ) → length xs ≡ suc k → length ys ≡ suc k →
    borrows_differ truth_gates xs ys false ≡ bvssubo (suc k) (number xs) (number ys)

-- a negation is a difference from zero (`bvneg`)
abbrev pub NegationsAreTaken : Type 0
NegationsAreTaken = (xs : List Bool) → number (difference truth_gates (zeros truth_gates xs) xs false) ≡ bvneg (length xs) (number xs)

-- a negation overflows exactly where that difference does (`bvnego`)
abbrev pub NegationsOverflow : Type 0
NegationsOverflow =
    (xs : List Bool) (k : ℕ) → length xs ≡ suc k → borrows_differ truth_gates (zeros truth_gates xs) xs false ≡ bvnego (suc k) (number xs)

-- bits are equal at each place exactly where their numbers are
abbrev pub NumbersAreCompared : Type 0
NumbersAreCompared = (xs ys : List Bool) → length xs ≡ length ys → equal truth_gates xs ys ≡ (number xs == number ys)

-- zeros above the highest bit change no number
abbrev pub ExtensionsKeep : Type 0
ExtensionsKeep = (k : ℕ) (xs : List Bool) → number (extended truth_gates k xs) ≡ number xs

-- the number of a number's n lowest bits is the number modulo 2 to the n
abbrev pub NumbersHaveBits : Type 0
NumbersHaveBits = (n a : ℕ) → number (number_bits n a) ≡ a % 2 ^ n

-- bits are those of their number
abbrev pub BitsHaveNumbers : Type 0
BitsHaveNumbers = (bs : List Bool) → number_bits (length bs) (number bs) ≡ bs
