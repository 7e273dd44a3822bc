use Rattle.std.proofs.Common.{◌≡◌, ◌^◌, ◌<◌, drop}
use Rattle.law_texts.specs.Digits.{number_in}
use Rattle.smt_sexpr.proofs.Digits.{from_in}
use Rattle.smt_sexpr.proofs.number.number_of_digits.Given as goal

abbrev pub invariant-loop-digit : goal.invariant-loop-digit
invariant-loop-digit l = (l.value < 2 ^ 128) × (from_in l.base l.value (drop l.digit-index l.digits) ≡ number_in l.base l.digits)
