use Rattle.smt_job_terms.specs.DeclarationView.{declarations}
use Rattle.smt_jobs.specs.Numbered.{terms_begun}
use Rattle.smt_cli.proofs.Conditions.{terms_faultless}
use Rattle.smt_cli.proofs.generation.generated_summary.Goals as goal

pub want_of_memory-requires : goal.want_of_memory-requires
want_of_memory-requires c = c.in-Err.ensures.refused (terms_faultless (declarations c.in_ok-job.job.vars) (terms_begun c.in_ok-job.job.terms) c.args.seed c.args.count c.in_ok-job.ensures)
