use Rattle.std.proofs.Common.{bytes_eq, codes, sym, ap, ◌∙◌}
use Rattle.std.specs.Rc.{rc_str_bytes}
use Rattle.smt_sexpr.specs.View.{plain, plain_list}
use Rattle.smt_job_terms.proofs.Reading.{passes_on}
use Rattle.smt_jobs.specs.StepView.{plain_step}
use Rattle.smt_jobs.proofs.ExpressedJobs.{assert_fault}
use Rattle.smt_jobs.proofs.expressed.step_from.Goals as goal

pub returns-in_err-conditions_from : goal.returns-in_err-conditions_from
returns-in_err-conditions_from c ds has =
    let same = sym (c.if-eq.ensures ∙ ap (λ x. bytes_eq x (codes "assert")) c.as_str.ensures.value) in
    passes_on plain_step c.from_residual-in_err-conditions_from.result c.in_err-conditions_from.field-0.0 _ _ c.from_residual-in_err-conditions_from.ensures.1 (c.in_err-conditions_from.ensures ds has)
    (assert_fault ds (plain c.args.expression.now) (rc_str_bytes c.in_ok-name.name.now) (plain_list c.in_ok-name.items.now) c.in_ok-name.ensures same)
