use Rattle.std.proofs.Common.{arith, length, ◌-◌}
use Rattle.law_texts.specs.Digits.{decimal_number}
use Rattle.law_texts.proofs.Fields.{at_least_itself}
use Rattle.smt_ext.proofs.decimal.magnitude.Goals as goal

-- The digits behind the point alone are not above the number of ten-thousandths.
pub returns-in_err-number-2 : goal.returns-in_err-number-2
returns-in_err-number-2 c =
    rw c.from_residual-in_err-number-2.ensures (λ small. (
    let more = at_least_itself (decimal_number c.args.fraction.now) (4 - length c.args.fraction.now) in
    c.in_err-number-2.ensures (omega arith)
    ))
