-- The steps by which a solver is asked about a job, by what was read of it.
use Rattle.std.proofs.Common.{◌≡◌, ℕ, List, [], ◌∷◌, map, refl, sym, ap, ◌∙◌, subst, Option, None}
use Rattle.std.proofs.lemmas.List.{map-append}
use Rattle.std.specs.Prelude.{IsTrue}
use Rattle.law_terms.specs.Faults.{Fault, first_fault}
use Rattle.law_terms.specs.Plain.{PlainTerm}
use Rattle.law_terms.specs.TypeValues.{Enums}
use Rattle.law_folding.specs.Built.{built}
use Rattle.law_jobs.specs.Jobs.{IsBuiltFrom, PlainJob, built_job, fault_of}
use Rattle.law_jobs.specs.Steps.{PlainStep, AreBalanced, CheckStep, Section, TermsSection, StepsSection, asserted, built_step, built_steps, checked_steps}
use Rattle.law_jobs.proofs.Steps.{asserted_built}
use Rattle.smt_runs.proofs.Meaning.{balanced_with_check, with_check}
use Rattle.smt_nodes.specs.declared.interner.Interner.{Interner}
use Rattle.smt_jobs.specs.Numbers.{all_steps_stand, steps_by}
use Rattle.smt_jobs.specs.declared.numbered.NumberedStep.{NumberedStep}
use Rattle.smt_cli.specs.Run.{steps_to_check}

of_section : (section : Section) (steps : List PlainStep) → checked_steps section (built_steps steps) ≡ built_steps (checked_steps section steps)
of_section TermsSection steps = sym (map-append built_step steps (CheckStep ∷ []))
of_section StepsSection steps = refl

steps_of : (section stated : Section) (job written : PlainJob) → stated ≡ section → job ≡ built_job written → checked_steps section job.steps ≡ built_steps (checked_steps stated written.steps)
steps_of section stated job written same is =
    ap (λ (s : Section). checked_steps s job.steps) (sym same) ∙ ap (λ (j : PlainJob). checked_steps stated j.steps) is ∙ of_section stated written.steps

-- What holds of the steps by which a solver was asked holds of those of the job, as they are built.
pub of_steps : (bytes : List ℕ) (section : Section) (job : PlainJob) (is : IsBuiltFrom bytes section job) (A : Enums → List PlainStep → Type 0) → A job.enums (checked_steps section job.steps)
    → A is.written.enums (built_steps (steps_to_check bytes is.written is.is_job))
of_steps bytes section job is A a =
    subst (λ (steps : List PlainStep). A is.written.enums steps) (steps_of section is.is_job.section job is.written is.by_section is.is_built)
    (subst (λ (j : PlainJob). A j.enums (checked_steps section job.steps)) is.is_built a)

-- the steps by which a solver is asked assert what those of the job do
asserted_checked : (section : Section) (steps : List PlainStep) → asserted (checked_steps section steps) ≡ asserted steps
asserted_checked TermsSection steps = with_check steps
asserted_checked StepsSection steps = refl

-- the fault of what was asked is that of the job
pub fault_asked : (job : PlainJob) (section : Section) (P : Option Fault → Type 0) → P (first_fault job.enums (asserted (built_steps (checked_steps section job.steps)))) → P (fault_of job)
fault_asked job section P h =
    subst (λ (ts : List PlainTerm). P (first_fault job.enums ts)) (asserted_built (checked_steps section job.steps) ∙ ap (map built) (asserted_checked section job.steps)) h

-- where what was asked has no fault, the job has none
pub faultless_job : (job : PlainJob) (section : Section) → first_fault job.enums (asserted (built_steps (checked_steps section job.steps))) ≡ None → fault_of job ≡ None
faultless_job job section none = fault_asked job section (λ (fault : Option Fault). fault ≡ None) none

-- where the steps of a job that was read have no fault, the job has none
pub faultless_read : (job written : PlainJob) → job ≡ built_job written → first_fault job.enums (asserted job.steps) ≡ None → fault_of written ≡ None
faultless_read job written is none =
    subst (λ (ts : List PlainTerm). first_fault written.enums ts ≡ None) (asserted_built written.steps) (subst (λ (j : PlainJob). first_fault j.enums (asserted j.steps) ≡ None) is none)

-- ---- by numbers

balanced_checked : (section : Section) (steps : List PlainStep) → AreBalanced 0 steps → AreBalanced 0 (checked_steps section steps)
balanced_checked TermsSection steps b = balanced_with_check 0 steps b
balanced_checked StepsSection steps b = b

module _ (nodes : Interner) (section : Section) (steps more : List NumberedStep) (slice : List NumberedStep) (same : slice ≡ more) where
  pub stand_in : all_steps_stand nodes more ≡ all_steps_stand nodes steps → IsTrue (all_steps_stand nodes steps) → IsTrue (all_steps_stand nodes slice)
  stand_in alike stand = ap (all_steps_stand nodes) same ∙ alike ∙ stand

  pub said : steps_by nodes more ≡ checked_steps section (steps_by nodes steps) → checked_steps section (steps_by nodes steps) ≡ steps_by nodes slice
  said stated = sym (ap (steps_by nodes) same ∙ stated)

  pub balanced_in : steps_by nodes more ≡ checked_steps section (steps_by nodes steps) → AreBalanced 0 (steps_by nodes steps) → AreBalanced 0 (steps_by nodes slice)
  balanced_in stated b = subst (AreBalanced 0) (said stated) (balanced_checked section (steps_by nodes steps) b)
