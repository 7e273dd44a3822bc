use Rattle.std.proofs.Common.{[], refl}
use Rattle.smt_dimacs.proofs.body.Body.take_word.Goals as goal

pub returns-in-Large-clause-err : goal.returns-in-Large-clause-err
returns-in-Large-clause-err c =
    let large = c.in-Large.ensures in
    (refl, record { front = []; word = c.args.word.now; back = []; whole = refl; what = record { literal = large.literal; says = large.says; above = large.above } })

pub returns-in-Nothing-clause-err : goal.returns-in-Nothing-clause-err
returns-in-Nothing-clause-err c =
    (refl, record { front = []; word = c.args.word.now; back = []; whole = refl; what = c.fault_of.ensures c.args.problem.variables })
