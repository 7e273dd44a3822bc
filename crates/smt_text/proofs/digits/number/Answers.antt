use Rattle.std.proofs.Common.{arith, get_or}
use Rattle.law_texts.specs.Digits.{decimal_number}
use Rattle.law_texts.proofs.Numbers.{at_least, digit_at, digit_range}
use Rattle.smt_text.proofs.digits.number.Goals as goal

pub returns-in_err-checked_mul : goal.returns-in_err-checked_mul
returns-in_err-checked_mul c =
    rw c.from_residual.ensures (λ small. (
    let least = at_least c.loop-digit.value c.loop-digit.digit-index (decimal_number c.args.digits.now) c.args.digits.now c.loop-digit-test.true c.loop-digit.invariant.1 in
    c.in_err-checked_mul.ensures (omega arith)
    ))

pub returns-in_err-value : goal.returns-in_err-value
returns-in_err-value c =
    let d = digit_at c.args.digits.now c.loop-digit.digit-index c.requires c.loop-digit-test.true in
    let range = digit_range (get_or c.args.digits.now c.loop-digit.digit-index 0) d in
    rw c.from_residual-in_err-value.ensures (λ small. (
    let least = at_least c.loop-digit.value c.loop-digit.digit-index (decimal_number c.args.digits.now) c.args.digits.now c.loop-digit-test.true c.loop-digit.invariant.1 in
    c.in_err-value.ensures (let a = c.in_ok-checked_mul.ensures in let b = c.from.ensures in omega arith)
    ))
