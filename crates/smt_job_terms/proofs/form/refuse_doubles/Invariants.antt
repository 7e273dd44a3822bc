use Rattle.smt_job_terms.proofs.FormsRead.{AreNew}
use Rattle.smt_job_terms.proofs.form.refuse_doubles.Given as goal

abbrev pub invariant-loop-place : goal.invariant-loop-place
invariant-loop-place l = AreNew l.names l.place
