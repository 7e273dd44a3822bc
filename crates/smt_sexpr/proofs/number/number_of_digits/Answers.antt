use Rattle.std.proofs.Common.{arith}
use Rattle.law_texts.specs.Digits.{number_in}
use Rattle.smt_sexpr.proofs.Digits.{at_least}
use Rattle.smt_sexpr.proofs.number.number_of_digits.Goals as goal

pub returns-in_err-checked_mul : goal.returns-in_err-checked_mul
returns-in_err-checked_mul c =
    rw c.from_residual.ensures (λ small. (
    let least = at_least c.args.base c.loop-digit.value c.loop-digit.digit-index (number_in c.args.base c.args.digits.now) c.args.digits.now c.requires c.loop-digit-test.true c.loop-digit.invariant.1 in
    c.in_err-checked_mul.ensures (omega arith)
    ))

pub returns-in_err-value : goal.returns-in_err-value
returns-in_err-value c =
    rw c.from_residual-in_err-value.ensures (λ small. (
    let least = at_least c.args.base c.loop-digit.value c.loop-digit.digit-index (number_in c.args.base c.args.digits.now) c.args.digits.now c.requires c.loop-digit-test.true c.loop-digit.invariant.1 in
    c.in_err-value.ensures (let a = c.in_ok-checked_mul.ensures in let b = c.from.ensures in let d = c.value_of_digit.ensures in omega arith)
    ))
