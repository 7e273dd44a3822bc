use Rattle.std.proofs.Common.{◌≤◌, arith, length}
use Rattle.law_assignments.specs.Inputs.{input_of}
use Rattle.law_jobs.specs.Jobs.{greatest_length}
use Rattle.smt_jobs.specs.JobView.{plain_job}
use Rattle.smt_sexpr.specs.View.{plain}
use Rattle.smt_eval.specs.AssignmentView.{plain_assignment}
use Rattle.smt_eval.specs.ReaderView.{built_input}
use Rattle.smt_eval.proofs.InputReading.{if_read, if_refused}
use Rattle.smt_eval.proofs.ReadWhole.{faulty, input_read}
use Rattle.smt_eval.proofs.input.read_eval.Goals as goal

pub returns-clause-input : goal.returns-clause-input
returns-clause-input c =
    let short : length c.args.bytes.now ≤ greatest_length = omega (arith, c.if-bytes-gt-GREATEST_JOB.false) in
    let e = plain c.in_ok-expression.expression in
    if_read (λ input. (plain_job input.job, plain_assignment input.given)) c.input_in.result (built_input (input_of e)) _ c.input_in.ensures (λ x h. input_read c.args.bytes.now short e c.in_ok-expression.ensures.read (plain_job x.job) (plain_assignment x.given) h)

pub returns-clause-refused : goal.returns-clause-refused
returns-clause-refused c =
    let short : length c.args.bytes.now ≤ greatest_length = omega (arith, c.if-bytes-gt-GREATEST_JOB.false) in
    let e = plain c.in_ok-expression.expression in
    if_refused _ c.input_in.result (built_input (input_of e)) _ c.input_in.ensures (λ x h. faulty c.args.bytes.now short e c.in_ok-expression.ensures.read x h)
