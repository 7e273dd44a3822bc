-- What is put of an evaluation, and what it is worth.
use Rattle.std.specs.Prelude.{ℕ, ◌≡◌, ◌↔◌, Bool, true, false, codes, map, IsTrue, List, ◌++◌, None}
use Rattle.std.specs.List.{flat_map, list_all}
use Rattle.law_assignments.specs.Assignments.{PlainAssignment, interpretation}
use Rattle.law_folding.specs.Built.{built}
use Rattle.smt_runs.specs.JobTexts.{names_of_job}
use Rattle.smt_runs.specs.Meaning.{MeansSteps}
use Rattle.law_jobs.specs.Jobs.{PlainJob, fault_of}
use Rattle.law_jobs.specs.Steps.{built_steps, current}
use Rattle.law_scripts.specs.Value.{IsModel}
use Rattle.law_terms.specs.Interpretations.{Agree, IsInterpretation, restrict}
use Rattle.law_terms.specs.Meaning.{AreTrue, term_value}
use Rattle.law_terms.specs.Operators.{truth}
use Rattle.law_terms.specs.Plain.{PlainTerm}
use Rattle.law_terms.specs.Tables.{Interpretation}
use Rattle.law_theorem.specs.CarriedInterpretations.{carry_interpretation}

-- the truths of terms in the interpretation that an assignment gives, in order
abbrev pub truths_in : PlainAssignment → List PlainTerm → List Bool
truths_in a ts = map (λ t. truth (term_value (interpretation a) t)) ts

-- whether all are true
abbrev pub all_true : List Bool → Bool
all_true truths = list_all (λ b. b) truths

-- the line of a truth
abbrev pub truth_line : Bool → List ℕ
truth_line true = codes "true\n"
truth_line false = codes "false\n"

-- the last line, by whether all are true
abbrev pub verdict_line : Bool → List ℕ
verdict_line true = codes "holds\n"
verdict_line false = codes "fails\n"

-- the lines of some truths, and the last line
abbrev pub answer_text : List Bool → List ℕ
answer_text truths = flat_map truth_line truths ++ verdict_line (all_true truths)

-- the terms that are current behind all steps of a job, as they are built
abbrev pub current_terms : PlainJob → List PlainTerm
current_terms job = map built (current job.steps)

-- The last line is `holds`.
abbrev pub Holds : PlainAssignment → PlainJob → Type 0
Holds a job = IsTrue (all_true (truths_in a (current_terms job)))

-- What a job's script says of an assignment: `holds` exactly where what it gives to the terms is carried to a model of the script.
pub record TellsModel (a : PlainAssignment) (job : PlainJob) : Type 0 where
  pub script : MeansSteps job.enums job.steps
  pub model : Holds a job
      ↔ IsModel
      (carry_interpretation job.enums (names_of_job job.enums (built_steps job.steps)) (restrict (interpretation a) (current_terms job)))
      script.means.state

-- What `holds` is worth, of a job and an assignment.
pub record MeansHolds (a : PlainAssignment) (job : PlainJob) : Type 0 where
  -- the assignment gives an interpretation of the job's current terms as they are built
  pub interpreted : IsInterpretation job.enums (current_terms job) (interpretation a)
  -- it says that this makes them all true
  pub holds : Holds a job ↔ AreTrue (interpretation a) (current_terms job)
  -- and, of a job that has a script, that it is carried to a model of this
  pub model : fault_of job ≡ None → TellsModel a job
  -- then the terms are true, as they are written, in each interpretation of them that agrees with it on what the built ones reach
  pub written : Holds a job → (J : Interpretation) → Agree (current_terms job) (interpretation a) J →
      IsInterpretation job.enums (current job.steps) J → AreTrue J (current job.steps)
