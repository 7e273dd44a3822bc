-- The steps of a job before its first check.
use Rattle.std.proofs.Common.{◌≡◌, ℕ, List, [], ◌∷◌, ◌++◌, map, refl, sym, ap, ◌∙◌, subst, None}
use Rattle.law_terms.specs.Faults.{first_fault}
use Rattle.law_terms.specs.Plain.{PlainTerm}
use Rattle.law_terms.specs.TypeValues.{Enums}
use Rattle.law_folding.specs.Built.{built}
use Rattle.law_jobs.specs.Jobs.{PlainJob, fault_of}
use Rattle.law_jobs.specs.Steps.{PlainStep, AssertStep, CheckStep, PopStep, PushStep, Section, TermsSection, StepsSection, asserted, built_steps, checked_steps}
use Rattle.law_jobs.proofs.Steps.{asserted_built}
use Rattle.law_verdicts.specs.Dialogues.{AnsweredCheck}
use Rattle.smt_runs.proofs.Behind.{asserted_before}
use Rattle.smt_runs.proofs.Writing.{first_none}
use Rattle.smt_runs.specs.Asking.{AskedSoFar}
use Rattle.smt_runs.specs.Pieces.{StopsAt}
use Rattle.smt_cli.specs.Causes.{before_check}

-- Those steps stand at the front of all that are done where a check follows or none is left.
record AreDone (steps done : List PlainStep) : Type 0 where
  more : List PlainStep
  cut : done ≡ before_check steps ++ more

are_done : (done left : List PlainStep) → StopsAt left → AreDone (done ++ left) done
are_done [] [] stops = record { more = []; cut = refl }
are_done [] (CheckStep ∷ left) stops = record { more = []; cut = refl }
are_done [] (AssertStep ts ∷ left) stops = absurd stops
are_done [] (PushStep ∷ left) stops = absurd stops
are_done [] (PopStep ∷ left) stops = absurd stops
are_done (CheckStep ∷ done) left stops = record { more = CheckStep ∷ done; cut = refl }
are_done (AssertStep ts ∷ done) left stops = let d = are_done done left stops in record { more = d.more; cut = ap (λ (ss : List PlainStep). AssertStep ts ∷ ss) d.cut }
are_done (PushStep ∷ done) left stops = let d = are_done done left stops in record { more = d.more; cut = ap (λ (ss : List PlainStep). PushStep ∷ ss) d.cut }
are_done (PopStep ∷ done) left stops = let d = are_done done left stops in record { more = d.more; cut = ap (λ (ss : List PlainStep). PopStep ∷ ss) d.cut }

first_part : (enums : Enums) (steps done : List PlainStep) → AreDone steps done → first_fault enums (asserted done) ≡ None → first_fault enums (asserted (before_check steps)) ≡ None
first_part enums steps done d none =
    first_none enums (asserted (before_check steps)) (asserted d.more) (subst (λ (ts : List PlainTerm). first_fault enums ts ≡ None) (ap asserted d.cut ∙ asserted_before (before_check steps) d.more) none)

-- a check behind the steps of a job stands before none of them
first_checked : (section : Section) (steps : List PlainStep) → before_check (checked_steps section steps) ≡ before_check steps
first_checked TermsSection [] = refl
first_checked TermsSection (CheckStep ∷ steps) = refl
first_checked TermsSection (AssertStep ts ∷ steps) = ap (λ (ss : List PlainStep). AssertStep ts ∷ ss) (first_checked TermsSection steps)
first_checked TermsSection (PushStep ∷ steps) = ap (λ (ss : List PlainStep). PushStep ∷ ss) (first_checked TermsSection steps)
first_checked TermsSection (PopStep ∷ steps) = ap (λ (ss : List PlainStep). PopStep ∷ ss) (first_checked TermsSection steps)
first_checked StepsSection steps = refl

first_built : (steps : List PlainStep) → before_check (built_steps steps) ≡ built_steps (before_check steps)
first_built [] = refl
first_built (CheckStep ∷ steps) = refl
first_built (AssertStep ts ∷ steps) = ap (λ (ss : List PlainStep). AssertStep (map built ts) ∷ ss) (first_built steps)
first_built (PushStep ∷ steps) = ap (λ (ss : List PlainStep). PushStep ∷ ss) (first_built steps)
first_built (PopStep ∷ steps) = ap (λ (ss : List PlainStep). PopStep ∷ ss) (first_built steps)

asserted_first : (section : Section) (steps : List PlainStep) → asserted (before_check (built_steps (checked_steps section steps))) ≡ map built (asserted (before_check steps))
asserted_first section steps =
    ap asserted (first_built (checked_steps section steps)) ∙ ap (λ (ss : List PlainStep). asserted (built_steps ss)) (first_checked section steps) ∙ asserted_built (before_check steps)

-- Where a solver was asked so far, the steps before the first check have no fault.
pub first_faultless : (job : PlainJob) (section : Section) (checks : List AnsweredCheck) (lines : List ℕ) → AskedSoFar job.enums (built_steps (checked_steps section job.steps)) checks lines
    → first_fault job.enums (map built (asserted (before_check job.steps))) ≡ None
first_faultless job section checks lines so =
    let steps = built_steps (checked_steps section job.steps) in
    let done : AreDone steps so.done = subst (λ (ss : List PlainStep). AreDone ss so.done) (sym so.cut) (are_done so.done so.left so.stops) in
    subst (λ (ts : List PlainTerm). first_fault job.enums ts ≡ None) (asserted_first section job.steps) (first_part job.enums steps so.done done so.faultless)

-- nor have they one where the job has none
all_first : (steps : List PlainStep) → AreDone steps steps
all_first [] = record { more = []; cut = refl }
all_first (CheckStep ∷ steps) = record { more = CheckStep ∷ steps; cut = refl }
all_first (AssertStep ts ∷ steps) = let d = all_first steps in record { more = d.more; cut = ap (λ (ss : List PlainStep). AssertStep ts ∷ ss) d.cut }
all_first (PushStep ∷ steps) = let d = all_first steps in record { more = d.more; cut = ap (λ (ss : List PlainStep). PushStep ∷ ss) d.cut }
all_first (PopStep ∷ steps) = let d = all_first steps in record { more = d.more; cut = ap (λ (ss : List PlainStep). PopStep ∷ ss) d.cut }

pub part_at_first : (job : PlainJob) → fault_of job ≡ None → first_fault job.enums (map built (asserted (before_check job.steps))) ≡ None
part_at_first job none =
    subst (λ (ts : List PlainTerm). first_fault job.enums ts ≡ None) (ap asserted (first_built job.steps) ∙ asserted_built (before_check job.steps))
    (first_part job.enums (built_steps job.steps) (built_steps job.steps) (all_first (built_steps job.steps)) (subst (λ (ts : List PlainTerm). first_fault job.enums ts ≡ None) (sym (asserted_built job.steps)) none))
