use Rattle.std.proofs.Common.{refl, ap}
use Rattle.smt_sexpr.specs.View.{plain}
use Rattle.smt_jobs.specs.Walk.{first_and_others}
use Rattle.smt_jobs.proofs.Walking.{first_read}
use Rattle.smt_jobs.proofs.walk.next_expression.Goals as goal

pub returns-clause-stated : goal.returns-clause-stated
returns-clause-stated c es end i =
    let first = first_read c.args.depth es (plain c.in_ok-expression.expression) c.args.src.now c.in_ok-expression.rest.now end i c.in_ok-expression.ensures.found in
    ((plain c.in_ok-expression.expression, first.others), ap first_and_others first.whole, (refl, first.begins))
