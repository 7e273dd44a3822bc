use Rattle.std.proofs.Common.{◌≡◌, rules}
use Rattle.law_folding.specs.Built.{built}
use Rattle.law_jobs.specs.Outcomes.{mapped}
use Rattle.law_jobs.specs.Terms.{term_of}
use Rattle.smt_job_terms.specs.declared.error.JobError.TheVariants.{Memory}
use Rattle.smt_sexpr.specs.View.{plain}
use Rattle.smt_eval.proofs.Refused.{builds_nothing, states_nothing}
use Rattle.smt_eval.proofs.values.Reader.term.Goals as goal

pub returns-clause-stated : goal.returns-clause-stated
returns-clause-stated c ds reads =
    builds_nothing built (term_of ds (plain c.args.expression.now))
    (states_nothing c.in-Err.error (mapped built (term_of ds (plain c.args.expression.now))) (λ (want : c.in-Err.error ≡ Memory). absurd (search rules)) (c.in-Err.ensures ds reads.declares))
