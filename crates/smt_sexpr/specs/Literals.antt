-- The digits of literals in base 2 and 16, and why they give no bitvector (SMT-LIB 2.7, chapter 3, Lexicon).
use Rattle.std.specs.Prelude.{◌≡◌, ℕ, ◌*◌, ◌^◌, ◌<◌, ◌≤◌, nat_lt, IsTrue, length, List, []}
use Rattle.std.specs.List.{list_all}
use Rattle.law_texts.specs.Lexicon.{digit_value, number_in}
use Rattle.smt_bits.specs.BitVec.{width_of, number_of}
use Rattle.smt_bits.specs.declared.bitvec.BitVec.{BitVec}
use Rattle.smt_sexpr.specs.declared.error.IntFault.TheVariants.{Empty, PosOverflow}
use Rattle.smt_sexpr.specs.declared.error.SExprParseError.{SExprParseError}
use Rattle.smt_sexpr.specs.declared.error.SExprParseError.TheVariants.{ParseIntError, IntegerOverflow}

-- each digit is below the base
abbrev pub AreDigits : ℕ → List ℕ → Type 0
AreDigits base digits = IsTrue (list_all (λ d. nat_lt (digit_value d) base) digits)

-- The bitvector of digits that stand for so many bits each: at least one digit, and at most 128 bits.
pub record IsLiteral (base bits : ℕ) (digits : List ℕ) (b : BitVec) : Type 0 where
  pub width : width_of b ≡ bits * length digits
  pub number : number_of b ≡ number_in base digits
  pub some : 0 < length digits
  pub held : bits * length digits ≤ 128

-- Why digits give no bitvector: there are none, or their number or their width does not fit 128 bits. The number is looked at first.
abbrev pub IsLiteralFault : ℕ → ℕ → List ℕ → SExprParseError → Type 0
IsLiteralFault base bits digits (ParseIntError Empty) = digits ≡ []
IsLiteralFault base bits digits (ParseIntError PosOverflow) = (0 < length digits) × (2 ^ 128 ≤ number_in base digits)
IsLiteralFault base bits digits IntegerOverflow = (number_in base digits < 2 ^ 128) × (128 < bits * length digits)
IsLiteralFault base bits digits e = ⊥
