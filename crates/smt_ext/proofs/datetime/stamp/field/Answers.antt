use Rattle.std.proofs.Common.{arith, sym}
use Rattle.law_texts.proofs.Fields.{short_number}
use Rattle.smt_ext.proofs.datetime.stamp.field.Goals as goal

-- Four digits at most always give a number.
pub returns-in_err-number : goal.returns-in_err-number
returns-in_err-number c =
    let h = c.in_ok-front.ensures.cases in
    absurd (c.in_err-number.ensures (short_number c.in_ok-front.front.now (sym c.if-all_digits.ensures) (omega arith)))
