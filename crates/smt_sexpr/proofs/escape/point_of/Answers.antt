use Rattle.std.proofs.Common.{arith}
use Rattle.smt_sexpr.proofs.Digits.{short_number}
use Rattle.smt_sexpr.proofs.escape.point_of.Goals as goal

pub overflow_cast-result : goal.overflow_cast-result
overflow_cast-result c =
    let small = short_number c.args.digits.now c.requires.short c.requires.each in
    let same = c.in-Some.ensures.1 in
    omega arith

pub returns-in-None : goal.returns-in-None
returns-in-None c =
    let small = short_number c.args.digits.now c.requires.short c.requires.each in
    absurd (c.in-None.ensures (omega arith))
