use Rattle.std.proofs.Common.{sym, ◌∙◌}
use Rattle.std.specs.Rc.{rc_str_bytes}
use Rattle.smt_sexpr.specs.View.{plain, plain_list}
use Rattle.smt_term.specs.View.{plain_items}
use Rattle.smt_job_terms.proofs.Reading.{passes_on, read_of}
use Rattle.smt_jobs.specs.StepView.{plain_steps}
use Rattle.smt_jobs.proofs.ExpressedJobs.{steps_stated, terms_fault, terms_stated}
use Rattle.smt_jobs.proofs.expressed.section_from.Goals as goal

pub returns-in_err-terms-in-terms : goal.returns-in_err-terms-in-terms
returns-in_err-terms-in-terms c ds has =
    passes_on plain_steps c.from_residual-in_err-terms-in-terms.result c.in_err-terms-in-terms.field-0.0 _ _ c.from_residual-in_err-terms-in-terms.ensures.1 (c.in_err-terms-in-terms.ensures ds has)
    (terms_fault ds (plain c.args.section.now) (rc_str_bytes c.in_ok-name.name.now) (plain_list c.in_ok-name.items.now) c.in_ok-name.ensures (sym c.as_str.ensures.value ∙ c.in-terms.is))

pub returns-in_ok-one_assertion-in-terms : goal.returns-in_ok-one_assertion-in-terms
returns-in_ok-one_assertion-in-terms c ds has =
    terms_stated ds (plain c.args.section.now) (rc_str_bytes c.in_ok-name.name.now) (plain_list c.in_ok-name.items.now) c.in_ok-name.ensures (sym c.as_str.ensures.value ∙ c.in-terms.is) (plain_items c.in_ok-terms-in-terms.terms) _ (c.in_ok-terms-in-terms.ensures ds has) c.in_ok-one_assertion-in-terms.ensures

pub returns-in-steps : goal.returns-in-steps
returns-in-steps c ds has =
    read_of plain_steps c.steps_from.result _ _ (steps_stated ds (plain c.args.section.now) (rc_str_bytes c.in_ok-name.name.now) (plain_list c.in_ok-name.items.now) c.in_ok-name.ensures (sym c.as_str.ensures.value ∙ c.in-steps.is)) (c.steps_from.ensures ds has)
