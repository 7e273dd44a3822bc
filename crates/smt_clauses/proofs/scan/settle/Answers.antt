use Rattle.smt_clauses.proofs.Clashes.{marked_more, none_left, one_left}
use Rattle.smt_clauses.proofs.scan.settle.Goals as goal

pub returns-clause-marks : goal.returns-clause-marks
returns-clause-marks c v t h = marked_more v c.args.marks.now c.settle_last.new.marks c.args.other c.settle_last.ensures.marks (one_left v c.args.marks.now c.args.clause.now c.args.other c.in-None.ensures.none t h) h

pub returns-clause-conflict : goal.returns-clause-conflict
returns-clause-conflict c clash v t h = none_left v c.args.marks.now c.args.clause.now c.args.other c.in-None.ensures.none (c.settle_last.ensures.conflict clash) t h

pub returns-clause-given : goal.returns-clause-given
returns-clause-given c = c.settle_last.ensures.given c.args.clause.now c.in-None.ensures.none
