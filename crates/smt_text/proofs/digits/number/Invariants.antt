use Rattle.std.proofs.Common.{◌≡◌, ◌^◌, ◌<◌, drop}
use Rattle.law_texts.specs.Digits.{decimal_number}
use Rattle.law_texts.proofs.Numbers.{from_digits}
use Rattle.smt_text.proofs.digits.number.Given as goal

abbrev pub invariant-loop-digit : goal.invariant-loop-digit
invariant-loop-digit l = (l.value < 2 ^ 64) × (from_digits l.value (drop l.digit-index l.digits) ≡ decimal_number l.digits)
