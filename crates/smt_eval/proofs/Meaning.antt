-- What `holds` is worth for a job with an assignment.
use Rattle.std.proofs.Common.{◌≡◌, List, [], Ok, Err, map, None, refl, subst}
use Rattle.std.specs.List.{AllByRecursion}
use Rattle.std.specs.Prelude.{◌↔◌, IfOk, ℕ}
use Rattle.law_assignments.specs.Assignments.{PlainAssignment, interpretation}
use Rattle.law_assignments.specs.Covered.{Covers, first_missing}
use Rattle.law_assignments.specs.Entries.{assignment_of}
use Rattle.law_assignments.specs.InputLaws.{IsEvaluable}
use Rattle.law_assignments.specs.Inputs.{IsInput, input_inside, unless_missing}
use Rattle.law_assignments.specs.Outcomes.{InputOutcome, FormlessInput, of_job}
use Rattle.law_assignments.specs.Written.{WrittenInput, input_written}
use Rattle.law_assignments.proofs.Given.{covered_is_interpretation}
use Rattle.law_assignments.proofs.Holding.{true_in_all_is_evaluated, truth_of_the_built}
use Rattle.law_assignments.proofs.Inputs.{inputs_are_evaluable}
use Rattle.law_assignments.proofs.Models.{holds_means_model}
use Rattle.law_assignments.proofs.Steps.{from_job, next, whatever}
use Rattle.law_folding.specs.Built.{built}
use Rattle.smt_runs.proofs.Meaning.{jobs_are_writable, writable_steps_mean}
use Rattle.smt_runs.specs.JobTexts.{names_of_job, text_of_job}
use Rattle.law_jobs.specs.Jobs.{PlainJob, built_job, fault_of, job_of, declarations_of}
use Rattle.law_jobs.specs.Laws.{IsCondition}
use Rattle.law_jobs.specs.Outcomes.{Outcome}
use Rattle.law_jobs.specs.Steps.{Section, built_steps, current}
use Rattle.law_jobs.proofs.BuiltConditions.{all_formed, are_typed}
use Rattle.law_jobs.proofs.Jobs.{stated_steps_sound}
use Rattle.law_jobs.proofs.Steps.{current_all, current_built}
use Rattle.law_terms.specs.Formed.{IsFormed}
use Rattle.law_terms.specs.Meaning.{AreTrue}
use Rattle.law_terms.specs.Typing.{AreBoolean}
use Rattle.law_texts.specs.Outcomes.{demanded}
use Rattle.law_texts.specs.Reading.{Expression}
use Rattle.smt_eval.specs.Answers.{Holds, MeansHolds, TellsModel, current_terms}
use Rattle.smt_eval.proofs.Truths.{all_evaluate, evaluated_all}

-- ---- the job of an input is stated by an expression

told : {A : Type 0} (P : A → Type 0) (o : Outcome A) → ((x : A) → o ≡ Ok x → P x) → IfOk o P
told P (Ok x) h = h x refl
told P (Err fault) h = tt

-- an expression states the job
abbrev IsStated : PlainJob × PlainAssignment → Type 0
IsStated p = (e : Expression) × (section : Section) × (job_of e ≡ Ok (section, p.0))

inside_stated : (w : WrittenInput) → IfOk (input_inside w) IsStated
inside_stated w =
    next (λ x. job_of w.job ≡ Ok x) IsStated (of_job (job_of w.job)) _ (from_job (λ x. job_of w.job ≡ Ok x) (job_of w.job) (told (λ x. job_of w.job ≡ Ok x) (job_of w.job) (λ x e. e))) (λ x e.
    whatever IsStated (assignment_of (declarations_of x.1) w) _ (λ a.
    whatever IsStated (unless_missing (first_missing a (map built (current x.1.steps)))) _ (λ u. (w.job, x.0, e))))

module _ (bytes : List ℕ) (job : PlainJob) (a : PlainAssignment) (is : IsInput bytes job a) where
  stated : IsStated (job, a)
  stated = subst (λ (o : InputOutcome (PlainJob × PlainAssignment)). IfOk o IsStated) is.stated (whatever IsStated (demanded FormlessInput (input_written is.expression)) input_inside inside_stated)

  known : IsEvaluable (built_job job) a
  known = inputs_are_evaluable bytes (built_job job) a (record { written = job; is_input = is; is_built = refl })

  covers : Covers a (current_terms job)
  covers = subst (Covers a) (current_built job.steps) known.covered

  booleans : AreBoolean (current_terms job)
  booleans = subst AreBoolean (current_built job.steps) known.boolean

  formed : AllByRecursion IsFormed (current_terms job)
  formed = subst (AllByRecursion IsFormed) (current_built job.steps) known.formed

  conditions : AllByRecursion IsCondition (current job.steps)
  conditions = current_all IsCondition [] [] job.steps tt tt (stated_steps_sound stated.0 (stated.1, job) stated.2).0

  holds : Holds a job ↔ AreTrue (interpretation a) (current_terms job)
  holds =
      let all = true_in_all_is_evaluated job.enums a (current_terms job) known.sound covers booleans formed in
      (λ h. all.0 (all_evaluate job.enums a known.sound (current_terms job) covers booleans formed h), λ h. evaluated_all job.enums a known.sound (current_terms job) covers booleans formed (all.1 h))

  tells : fault_of job ≡ None → TellsModel a job
  tells none =
      let means = writable_steps_mean job.enums job.steps (jobs_are_writable.stated stated.0 stated.1 job stated.2 none) in
      let model = holds_means_model job.enums (names_of_job job.enums (built_steps job.steps)) a (current_terms job) (text_of_job job.enums (built_steps job.steps)) means.means known.sound covers booleans formed in
      record {
        script = means;
        model = (λ h. model.0 (all_evaluate job.enums a known.sound (current_terms job) covers booleans formed h), λ h. evaluated_all job.enums a known.sound (current_terms job) covers booleans formed (model.1 h));
      }

  pub means_holds : MeansHolds a job
  means_holds = record {
    interpreted = covered_is_interpretation job.enums a (current_terms job) known.sound covers;
    holds = holds;
    model = tells;
    written = λ h J same given. truth_of_the_built job.enums (current job.steps) (interpretation a) J (are_typed (current job.steps) conditions) (all_formed (current job.steps) conditions) same given (holds.0 h);
  }
