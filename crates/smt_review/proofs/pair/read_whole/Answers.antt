use Rattle.std.proofs.Common.{arith}
use Rattle.smt_runs.proofs.Reading.{job_unread}
use Rattle.smt_review.proofs.Pairing.{job_boolean}
use Rattle.smt_review.proofs.pair.read_whole.Goals as goal

pub returns-in_err-read_job-clause-refused : goal.returns-in_err-read_job-clause-refused
returns-in_err-read_job-clause-refused g c =
    job_unread _ c.in_err-read_job.field-0.0 _ _ c.in_ok-bytes.bytes.items c.as_slice.result.now c.from_residual-in_err-read_job.ensures.1 c.in_ok-bytes.ensures.all.whole c.as_slice.ensures.value
    (omega (arith, c.in_ok-bytes.ensures.short, c.as_slice.ensures.len)) c.in_err-read_job.ensures.refused

pub returns-clause-boolean : goal.returns-clause-boolean
returns-clause-boolean g c = let job = c.in_ok-read_job.ensures.job in job_boolean c.as_slice.result.now job.0 _ job.1
