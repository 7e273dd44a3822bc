use Rattle.smt_sexpr.specs.View.{plain}
use Rattle.smt_jobs.specs.JobView.{plain_job}
use Rattle.law_jobs.specs.Jobs.{declarations_of}
use Rattle.smt_jobs.proofs.TermFaults.{not_boolean}
use Rattle.smt_jobs.proofs.expressed.read_term_expr.Goals as goal

pub returns-clause-never_no_boolean : goal.returns-clause-never_no_boolean
returns-clause-never_no_boolean c =
    let ds = declarations_of (plain_job c.args.job.now) in
    not_boolean ds (plain c.args.e.now) c.term_from.result (c.term_from.ensures ds c.in_ok-declared.ensures.declares)
