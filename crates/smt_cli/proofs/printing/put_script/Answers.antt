use Rattle.std.proofs.Common.{Result, subst, sym}
use Rattle.law_terms.specs.Faults.{first_fault}
use Rattle.law_jobs.specs.Steps.{asserted}
use Rattle.smt_term.specs.Enums.{enums_of}
use Rattle.smt_jobs.specs.Numbered.{numbered_steps}
use Rattle.smt_script.specs.Sink.{Rose}
use Rattle.smt_encode.specs.Refusals.{HasCause}
use Rattle.smt_encode.specs.declared.error.EncodeError.{EncodeError}
use Rattle.smt_runs.specs.Jobs.{HasPrintCause}
use Rattle.smt_runs.specs.declared.refusal.Refusal.{Refusal}
use Rattle.smt_runs.proofs.Printing.{print_cause}
use Rattle.smt_cli.proofs.printing.put_script.Goals as goal

pub returns-in-Err-clause-refused : goal.returns-in-Err-clause-refused
returns-in-Err-clause-refused g c =
    let before = g.W.Sink.faults c.args.out.now in
    let after = g.W.Sink.faults c.encode_job.new.out in
    let fault = first_fault (enums_of c.args.job.enums) (asserted (numbered_steps c.args.job.steps)) in
    subst (λ (why : Refusal). HasPrintCause fault (Rose before after) why) (sym c.of.ensures)
    (print_cause before after fault c.in-Err.error (subst (λ (r : Result (Unit {0}) EncodeError). HasCause before after fault r) c.in-Err.is c.encode_job.ensures.refused))
