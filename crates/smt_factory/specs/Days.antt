-- Parts of the arithmetic of days.
use Rattle.law_numbers.specs.BitOperators.{BvaddOp}
use Rattle.law_extensions.specs.ExtensionFunctions.{day_literal}
use Rattle.law_folding.specs.Applications.{bits_literal}
use Rattle.law_folding.specs.Builder.{Builder}
use Rattle.law_terms.specs.Plain.{PlainTerm}

-- a day more than a number of milliseconds, where it is not zero
abbrev pub a_day_more : Builder → (left : PlainTerm) → PlainTerm
a_day_more b r = b.ite (b.eq r (bits_literal 64 0)) (bits_literal 64 0) (b.bits BvaddOp r day_literal)
