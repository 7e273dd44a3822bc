-- The current terms of a job that was read, and their blasted terms.
use Rattle.std.proofs.Common.{◌≡◌, ◌∙◌, ℕ, List, [], Option, None, Ok, Err, Result, ap, append-nil, subst, sym}
use Rattle.std.specs.List.{AllByRecursion}
use Rattle.std.specs.Prelude.{IfErr, IfSome, IsErrAnd, IsTrue}
use Rattle.law_terms.specs.Plain.{PlainTerm}
use Rattle.law_terms.specs.Typing.{AreBoolean}
use Rattle.law_blasting.specs.Theorem.{new_roots, AreFaithful}
use Rattle.law_jobs.specs.Jobs.{IsJob, PlainJob}
use Rattle.law_jobs.specs.Laws.{IsCondition}
use Rattle.law_jobs.specs.Steps.{current}
use Rattle.law_jobs.proofs.BuiltConditions.{built_booleans}
use Rattle.law_jobs.proofs.Jobs.{jobs_have_conditions}
use Rattle.law_jobs.proofs.Steps.{current_built}
use Rattle.smt_nodes.specs.Interned.{StandFor}
use Rattle.smt_nodes.specs.View.{ids_of}
use Rattle.smt_nodes.specs.declared.id.NodeId.{NodeId}
use Rattle.smt_blast.specs.Answers.{Answers}
use Rattle.smt_blast.specs.declared.blasted.Blasted.{Blasted}
use Rattle.smt_blast.specs.declared.error.BlastError.{BlastError}
use Rattle.smt_blast.specs.declared.error.BlastError.TheVariants.{Unsupported as NoCircuit, UnsupportedType as NoBits, Memory as BlastWant}
use Rattle.smt_jobs.specs.Numbered.{numbered_steps}
use Rattle.smt_jobs.specs.Numbers.{all_steps_stand, steps_by}
use Rattle.smt_jobs.specs.declared.numbered.NumberedStep.{NumberedStep}
use Rattle.smt_jobs.specs.declared.numbered.NumberedJob.{NumberedJob}
use Rattle.smt_term.specs.View.{plain_op, plain_type}
use Rattle.smt_runs.proofs.Told.{of_told}
use Rattle.smt_blast.specs.Causes.{HasReadingCause, current_terms, refusal_in}
use Rattle.smt_blast.specs.Refused.{unblasted_refusal}
use Rattle.smt_runs.specs.Jobs.{IsReadOf}
use Rattle.smt_blast.specs.Run.{IsBlastedOf}
use Rattle.smt_runs.specs.declared.refusal.Refusal.{Refusal}

module _ (bytes : List ℕ) (job : PlainJob) (is : IsJob bytes job) where
  -- the current terms of a job, as they are written, are conditions
  pub current_conditions : AllByRecursion IsCondition (current job.steps)
  current_conditions = jobs_have_conditions.current bytes job job.steps [] is (sym (append-nil job.steps))

  -- the current terms of a job, as they are built, are Booleans
  pub current_booleans : AreBoolean (current_terms job)
  current_booleans = built_booleans (current job.steps) current_conditions

module _ (remaining : Option (List ℕ)) (job : NumberedJob) (read : IsReadOf remaining job) where
  -- the job as it was written
  abbrev pub written : PlainJob
  written = read.is_built.written

  pub read_booleans : AreBoolean (current_terms written)
  read_booleans = current_booleans read.bytes written read.is_built.is_job

  -- numbers of what is current stand for the terms that are current as the job was written, and built
  current_stand : (ids : List NodeId) → StandFor job.steps.nodes ids (current (numbered_steps job.steps)) → StandFor job.steps.nodes ids (current_terms written)
  current_stand ids h = subst (λ (ts : List PlainTerm). StandFor job.steps.nodes ids ts) (ap (λ (j : PlainJob). current j.steps) read.is_built.is_built ∙ current_built written.steps) h

  -- so do those of the steps as they were handed on
  pub numbers_stand : (steps : List NumberedStep) (ids more : List NodeId) → steps ≡ job.steps.steps.items → more ≡ ids → (IsTrue (all_steps_stand job.steps.nodes steps) → StandFor job.steps.nodes ids (current (steps_by job.steps.nodes steps)))
      → StandFor job.steps.nodes more (current_terms written)
  numbers_stand steps ids more same handed h =
      let nodes = job.steps.nodes in
      subst (λ (l : List NodeId). StandFor nodes l (current_terms written)) (sym handed)
      (current_stand ids (subst (λ (l : List NumberedStep). StandFor nodes ids (current (steps_by nodes l))) same (h (subst (λ (l : List NumberedStep). IsTrue (all_steps_stand nodes l)) (sym same) job.steps.stand))))

  told_job : IfSome remaining (λ bytes. IsJob bytes written)
  told_job = of_told (λ told. told ≡ read.bytes) (λ bytes. IsJob bytes written) remaining (λ bytes same. subst (λ (b : List ℕ). IsJob b written) (sym same) read.is_built.is_job) read.told

  pub blasted_of : (blasted : Blasted) → refusal_in written ≡ None → StandFor blasted.nodes (ids_of blasted.roots) (new_roots (current_terms written)) → AreFaithful written.enums (current_terms written) → IsBlastedOf remaining blasted
  blasted_of blasted none stand faithful = record { job = written; is_job = told_job; taken = none; stand = stand; faithful = faithful }

  unblasted_cause : (failed : Type 0) (error : BlastError) → Answers (refusal_in written) (Err error) → HasReadingCause remaining failed (unblasted_refusal error)
  unblasted_cause failed (NoCircuit op) h = of_told (λ bytes. IsJob bytes written) _ remaining (λ bytes is. (written, is, (plain_op op, h))) told_job
  unblasted_cause failed (NoBits ty) h = of_told (λ bytes. IsJob bytes written) _ remaining (λ bytes is. (written, is, (plain_type ty, h))) told_job
  unblasted_cause failed BlastWant h = tt

  pub unblasted : {T : Type 0} (failed : Type 0) (result : Result T Refusal) (error : BlastError) → IsErrAnd result (λ r. r ≡ unblasted_refusal error) → Answers (refusal_in written) (Err error) → IfErr result (HasReadingCause remaining failed)
  unblasted failed (Ok x) error e h = tt
  unblasted failed (Err r) error e h = subst (λ (x : Refusal). HasReadingCause remaining failed x) (sym e) (unblasted_cause failed error h)
