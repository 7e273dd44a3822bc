-- What a run does.
use Rattle.std.proofs.Common.{◌≡◌, ℕ, List, Option}
use Rattle.std.specs.Io.KnownBytes.{append_known}
use Rattle.std.specs.Prelude.{◌↔◌, IfSome}
use Rattle.law_terms.specs.Interpretations.{IsInterpretation}
use Rattle.law_terms.specs.Meaning.{AreTrue}
use Rattle.law_terms.specs.Tables.{Interpretation}
use Rattle.law_scripts.specs.Value.{IsModel}
use Rattle.law_jobs.specs.Jobs.{IsJob, PlainJob}
use Rattle.law_jobs.specs.Steps.{current}
use Rattle.smt_blast.specs.declared.blasted.Blasted.{Blasted}
use Rattle.smt_runs.specs.Runs.{Around, Fails}
use Rattle.smt_runs.specs.declared.refusal.Refusal.{Refusal}
use Rattle.smt_runs.specs.declared.refusal.Refusal.TheVariants.{Job, Blast, Source, Sink, Memory}
use Rattle.smt_blast.specs.Causes.{HasPutCause, HasReadingCause, IsTakenJob, WhyNotBlasted, current_terms}
use Rattle.smt_blast.specs.Meaning.{MeansBlasted, blasted_text, carried_bits}
use Rattle.smt_blast.specs.Run.{IsBlastedOf, Prints}
use Rattle.law_jobs.proofs.BuiltConditions.{as_built}
use Rattle.smt_runs.proofs.Told.{of_told}
use Rattle.smt_blast.proofs.BlastedJobs.{current_conditions}
use Rattle.smt_blast.proofs.Meaning.{means_blasted}

-- the script of a job means its terms as they are written
as_written : (bytes : List ℕ) (job : PlainJob) → IsJob bytes job → (m : MeansBlasted job.enums (current_terms job)) (I : Interpretation) → IsInterpretation job.enums (current job.steps) I
    → AreTrue I (current job.steps) ↔ IsModel (carried_bits (current_terms job) I) m.means.state
as_written bytes job is m I given =
    let both = as_built job.enums I (current job.steps) (current_conditions bytes job is) given in
    let models = (m.forth I both.0).1 in
    (λ h. models.0 (both.1.0 h), λ h. both.1.1 (models.1 h))

-- what was read is a job whose blasted terms were put
pub prints : (left : Option (List ℕ)) (blasted : Blasted) (b : IsBlastedOf left blasted) (old new : Option (List ℕ)) → new ≡ append_known old (blasted_text (current_terms b.job)) → IfSome left (Prints old new)
prints left blasted b old new put =
    let means = means_blasted b.job.enums (current_terms b.job) b.faithful in
    of_told (λ bytes. IsJob bytes b.job) (Prints old new) left (λ bytes is. record { job = b.job; is_job = is; taken = b.taken; printed = put; means = means; true_as_written = as_written bytes b.job is means }) b.is_job

-- what was read is a job whose terms have no refusal
pub taken_job : (left : Option (List ℕ)) (blasted : Blasted) → IsBlastedOf left blasted → IfSome left IsTakenJob
taken_job left blasted b = of_told (λ bytes. IsJob bytes b.job) IsTakenJob left (λ bytes is. (b.job, is, b.taken)) b.is_job

-- ---- why nothing was put

-- what failed where nothing was blasted
pub unread_failed : (left : Option (List ℕ)) (failed sink_failed : Type 0) (r : Refusal) → HasReadingCause left failed r → Fails failed sink_failed r
unread_failed left failed sink_failed (Job kind) h = tt
unread_failed left failed sink_failed (Blast kind) h = tt
unread_failed left failed sink_failed Source h = h
unread_failed left failed sink_failed Memory h = tt
unread_failed left failed sink_failed r h = absurd h

-- what is known then, where nothing was put
pub unread_known : (before after : Around (Unit {0})) (failed : Type 0) (r : Refusal) → after.held ≡ before.held → HasReadingCause before.left failed r → WhyNotBlasted before after r
unread_known before after failed (Job kind) same h = (h, same)
unread_known before after failed (Blast kind) same h = (h, same)
unread_known before after failed Source same h = same
unread_known before after failed Memory same h = tt
unread_known before after failed r same h = absurd h

-- what failed where a script was not put
pub unput_failed : (source_failed failed : Type 0) (r : Refusal) → HasPutCause failed r → Fails source_failed failed r
unput_failed source_failed failed Sink h = h
unput_failed source_failed failed Memory h = tt
unput_failed source_failed failed r h = absurd h

-- what is known then
pub unput_known : (before after : Around (Unit {0})) (failed : Type 0) → IfSome before.left IsTakenJob → (r : Refusal) → HasPutCause failed r → WhyNotBlasted before after r
unput_known before after failed taken Sink h = taken
unput_known before after failed taken Memory h = tt
unput_known before after failed taken r h = absurd h
