-- The assignment of an input is sound, and gives all that the built terms reach; and these are Booleans.
use Rattle.std.proofs.Common.{◌≡◌, ℕ, List, [], codes, map, Option, Some, None, refl, subst, ap, ◌∙◌, sym, Err, Ok}
use Rattle.std.specs.Prelude.{IfOk}
use Rattle.std.specs.List.{AllByRecursion}
use Rattle.law_assignments.specs.Assignments.{PlainAssignment}
use Rattle.law_terms.specs.Formed.{IsFormed}
use Rattle.law_terms.specs.Typing.{AreBoolean}
use Rattle.law_assignments.specs.Covered.{Covers, first_missing}
use Rattle.law_assignments.specs.Sound.{IsSound}
use Rattle.law_assignments.proofs.Covering.{nothing_missing_is_covered}
use Rattle.law_folding.specs.Built.{built}
use Rattle.law_texts.specs.Reading.{Expression, Expressions}
use Rattle.law_jobs.specs.Jobs.{PlainJob, built_job, declared_first, job_of, job_of_sections, section_of, steps_last, declarations_of}
use Rattle.law_jobs.specs.Steps.{Section, current}
use Rattle.law_jobs.specs.Laws.{IsCondition}
use Rattle.law_jobs.proofs.FormedTypes.{AreDeclaredFormed}
use Rattle.law_jobs.proofs.BuiltConditions.{built_booleans, built_formed}
use Rattle.law_jobs.proofs.Jobs.{declared_sound, one_expression, sections_sound}
use Rattle.law_jobs.proofs.Outcomes as jobs
use Rattle.law_jobs.proofs.Steps.{current_all, current_built}
use Rattle.law_assignments.specs.Entries.{assignment_of}
use Rattle.law_assignments.specs.Inputs.{IsFaultyInput, IsInput, input_inside, input_of, unless_missing, greatest_input_nesting}
use Rattle.law_assignments.specs.InputLaws.{InputsAreEvaluable, InputsAreNotRefused, IsEvaluable}
use Rattle.law_assignments.specs.Outcomes.{InputFault, InputOutcome, of_job, FormlessInput}
use Rattle.law_texts.specs.Outcomes.{demanded}
use Rattle.law_assignments.specs.Written.{WrittenInput, input_written}
use Rattle.law_assignments.proofs.Entries.{assignment_sound}
use Rattle.law_assignments.proofs.Steps.{both_ok, from_job, next, whatever}

-- ---- the job

sections_declare : (es : Expressions) → IfOk (job_of_sections es) (λ x. AreDeclaredFormed (declarations_of x.1))
sections_declare es =
    jobs.bound _ (declared_first es) _ (jobs.onward (declared_first es) (declared_sound es) (λ p f.
    jobs.bound _ (steps_last p.0 p.1) _ (jobs.whichever _ (steps_last p.0 p.1) (λ x. record { variables = f.variables; functions = f.functions }))))

-- what is known of a job
abbrev IsJobHere : Section × PlainJob → Type 0
IsJobHere x = AllByRecursion IsCondition (current x.1.steps) × AreDeclaredFormed (declarations_of x.1)

current_conditions : (es : Expressions) → IfOk (job_of_sections es) (λ x. AllByRecursion IsCondition (current x.1.steps))
current_conditions es = jobs.onward (job_of_sections es) (sections_sound es) (λ x s. current_all IsCondition [] [] x.1.steps tt tt s.0)

job_known : (e : Expression) → IfOk (job_of e) IsJobHere
job_known e =
    jobs.bound IsJobHere (section_of (codes "job") e) job_of_sections (jobs.whichever _ (section_of (codes "job") e) (λ es.
    both_ok (λ x. AllByRecursion IsCondition (current x.1.steps)) (λ x. AreDeclaredFormed (declarations_of x.1)) (job_of_sections es) (current_conditions es) (sections_declare es)))

-- ---- the input

nothing_missing : (o : Option (List ℕ)) → IfOk (unless_missing o) (λ u. o ≡ None)
nothing_missing (Some name) = tt
nothing_missing None = refl

-- what is known of an input: its job, as it is built, can be evaluated
abbrev IsEvaluablePair : PlainJob × PlainAssignment → Type 0
IsEvaluablePair p = IsEvaluable (built_job p.0) p.1

evaluable : (job : PlainJob) (a : PlainAssignment) → IsSound job.enums a → Covers a (map built (current job.steps)) → AllByRecursion IsCondition (current job.steps) → IsEvaluable (built_job job) a
evaluable job a s covers c = record {
  sound = s;
  covered = subst (Covers a) (sym (current_built job.steps)) covers;
  boolean = subst AreBoolean (sym (current_built job.steps)) (built_booleans (current job.steps) c);
  formed = subst (AllByRecursion IsFormed) (sym (current_built job.steps)) (built_formed (current job.steps) c);
}

input_known : (w : WrittenInput) → IfOk (input_inside w) IsEvaluablePair
input_known w =
    next IsJobHere IsEvaluablePair (of_job (job_of w.job)) _ (from_job IsJobHere (job_of w.job) (job_known w.job)) (λ x h.
    next (IsSound x.1.enums) IsEvaluablePair (assignment_of (declarations_of x.1) w) _ (assignment_sound (declarations_of x.1) h.1 w) (λ a s.
    next (λ u. first_missing a (map built (current x.1.steps)) ≡ None) IsEvaluablePair (unless_missing (first_missing a (map built (current x.1.steps)))) _ (nothing_missing (first_missing a (map built (current x.1.steps)))) (λ u m.
    evaluable x.1 a s ((nothing_missing_is_covered a (map built (current x.1.steps))).0 m) h.0)))

pub inputs_are_evaluable : InputsAreEvaluable
inputs_are_evaluable bytes job a is =
    let k : IsEvaluable (built_job is.written) a = subst (λ (o : InputOutcome (PlainJob × PlainAssignment)). IfOk o IsEvaluablePair) is.is_input.stated (whatever IsEvaluablePair (demanded FormlessInput (input_written is.is_input.expression)) input_inside input_known) in
    subst (λ j. IsEvaluable j a) (sym is.is_built) k

-- ---- bytes are one input at most

same_outcome : (o : InputOutcome (PlainJob × PlainAssignment)) (p q : PlainJob × PlainAssignment) → o ≡ Ok p → o ≡ Ok q → p ≡ q
same_outcome o p q h i = cc

both : (o : InputOutcome (PlainJob × PlainAssignment)) (p : PlainJob × PlainAssignment) (fault : InputFault) → o ≡ Ok p → o ≡ Err fault → ⊥
both o p fault h k = cc

one_input : (bytes : List ℕ) (j k : PlainJob) (a b : PlainAssignment) → IsInput bytes j a → IsInput bytes k b → (j ≡ k) × (a ≡ b)
one_input bytes j k a b is too =
    let e : ◌≡◌ {A = PlainJob × PlainAssignment} (j, a) (k, b) = same_outcome (input_of is.expression) (j, a) (k, b) is.stated (ap input_of (one_expression bytes greatest_input_nesting too.expression is.expression too.read is.read) ∙ too.stated) in
    (ap (λ p. p.0) e, ap (λ p. p.1) e)

input_has_no_fault : (bytes : List ℕ) (job : PlainJob) (a : PlainAssignment) (fault : InputFault) → IsInput bytes job a → IsFaultyInput bytes fault → ⊥
input_has_no_fault bytes job a fault is faulty =
    both (input_of is.expression) (job, a) fault is.stated (ap input_of (one_expression bytes greatest_input_nesting faulty.expression is.expression faulty.read is.read) ∙ faulty.stated)

pub inputs_are_not_refused : InputsAreNotRefused
inputs_are_not_refused = record { one = one_input; sound = input_has_no_fault }
