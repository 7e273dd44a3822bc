-- Writable steps are steps of conditions, and lead to stages whose terms are those that are current.
use Rattle.std.proofs.Common.{◌≡◌, ℕ, zero, suc, Bool, true, false, List, [], ◌∷◌, ◌++◌, map, length, None, refl, ◌∙◌, subst, inr}
use Rattle.std.proofs.lemmas.List.{map-append}
use Rattle.std.specs.List.{AllByRecursion}
use Rattle.law_terms.specs.Faults.{first_fault, term_fault}
use Rattle.law_terms.specs.Plain.{PlainTerm}
use Rattle.law_terms.specs.TypeValues.{Enums}
use Rattle.law_terms.proofs.Soundness.{all-back, all-front, none-first, none-second, none_both}
use Rattle.law_folding.specs.Built.{built}
use Rattle.law_scripts.specs.Script.{CheckSat}
use Rattle.law_scripts.proofs.Laid.{plain_lines}
use Rattle.law_theorem.specs.Conditions.{AreConditions}
use Rattle.law_theorem.specs.Fits.{Stage, Stages, new_stages, no_stage}
use Rattle.law_theorem.specs.Sessions.{AreStepsOfConditions, ChangesNothing}
use Rattle.law_theorem.proofs.FitKept.{these_are_idle}
use Rattle.law_jobs.specs.Laws.{IsCondition}
use Rattle.law_jobs.specs.Steps.{PlainStep, AreBalanced, AssertStep, CheckStep, PopStep, PushStep, asserted, built_steps, current, current_behind}
use Rattle.law_jobs.proofs.BuiltConditions.{built_booleans, built_formed}
use Rattle.law_jobs.proofs.Steps.{current_built}
use Rattle.smt_script.specs.CommandTexts.{check_sat_text}
use Rattle.smt_runs.specs.JobTexts.{session_steps, stages_behind}

-- ---- faults of lists

pub first_none : (enums : Enums) (ts us : List PlainTerm) → first_fault enums (ts ++ us) ≡ None → first_fault enums ts ≡ None
first_none enums [] us h = refl
first_none enums (t ∷ ts) us h = none_both (term_fault enums t) (first_fault enums ts) (none-first (term_fault enums t) (first_fault enums (ts ++ us)) h) (first_none enums ts us (none-second (term_fault enums t) (first_fault enums (ts ++ us)) h))

pub others_none : (enums : Enums) (ts us : List PlainTerm) → first_fault enums (ts ++ us) ≡ None → first_fault enums us ≡ None
others_none enums [] us h = h
others_none enums (t ∷ ts) us h = others_none enums ts us (none-second (term_fault enums t) (first_fault enums (ts ++ us)) h)

-- ---- conditions

-- the line of a check changes nothing
pub check_changes_nothing : ChangesNothing check_sat_text
check_changes_nothing = inr (CheckSat, these_are_idle.0, plain_lines.0)

-- what is built of conditions without fault is such
pub built_conditions : (enums : Enums) (ts : List PlainTerm) → AllByRecursion IsCondition ts → first_fault enums (map built ts) ≡ None → AreConditions enums (map built ts)
built_conditions enums ts h none = record { are_typed = built_booleans ts h; are_formed = built_formed ts h; have_no_fault = none }

-- stages by their parts
abbrev pub staged : Stage → List Stage → Bool → Stages
staged now below begun = record { now = now; below = below; begun = begun }

module _ (enums : Enums) where
  conditions_behind : (steps : List PlainStep) (now : Stage) (below : List Stage) (begun : Bool) → AllByRecursion IsCondition (asserted steps) → first_fault enums (map built (asserted steps)) ≡ None → AreBalanced (length below) steps
      → AreStepsOfConditions enums (session_steps (built_steps steps)) (staged now below begun)
  conditions_behind [] now below begun c f b = tt
  conditions_behind (AssertStep ts ∷ steps) now below begun c f b =
      let apart = subst (λ (us : List PlainTerm). first_fault enums us ≡ None) (map-append built ts (asserted steps)) f in
      let y = stages_behind enums (AssertStep (map built ts) ∷ []) (staged now below begun) in (
        built_conditions enums ts (all-front IsCondition ts (asserted steps) c) (first_none enums (map built ts) (map built (asserted steps)) apart),
        conditions_behind steps y.now below true (all-back IsCondition ts (asserted steps) c) (others_none enums (map built ts) (map built (asserted steps)) apart) (balanced (length below) b),
      )
    where
      balanced : (k : ℕ) → AreBalanced k (AssertStep ts ∷ steps) → AreBalanced k steps
      balanced zero h = h
      balanced (suc k) h = h
  conditions_behind (PushStep ∷ steps) now below begun c f b = (tt, conditions_behind steps now (now ∷ below) true c f (balanced (length below) b))
    where
      balanced : (k : ℕ) → AreBalanced k (PushStep ∷ steps) → AreBalanced (suc k) steps
      balanced zero h = h
      balanced (suc k) h = h
  conditions_behind (PopStep ∷ steps) now [] begun c f b = absurd b
  conditions_behind (PopStep ∷ steps) now (y ∷ below) begun c f b = (tt, conditions_behind steps y below begun c f b)
  conditions_behind (CheckStep ∷ steps) now below begun c f b = (check_changes_nothing, conditions_behind steps now below begun c f (balanced (length below) b))
    where
      balanced : (k : ℕ) → AreBalanced k (CheckStep ∷ steps) → AreBalanced k steps
      balanced zero h = h
      balanced (suc k) h = h

  pub steps_of_conditions : (steps : List PlainStep) → AllByRecursion IsCondition (asserted steps) → first_fault enums (map built (asserted steps)) ≡ None → AreBalanced 0 steps → AreStepsOfConditions enums (session_steps (built_steps steps)) new_stages
  steps_of_conditions steps c f b = conditions_behind steps no_stage [] false c f b

  -- ---- the terms of the stages

  terms_behind : (steps : List PlainStep) (now : Stage) (below : List Stage) (begun : Bool) → (stages_behind enums steps (staged now below begun)).now.terms ≡ current_behind now.terms (map (λ (y : Stage). y.terms) below) steps
  terms_behind [] now below begun = refl
  terms_behind (AssertStep ts ∷ steps) now below begun = terms_behind steps (stages_behind enums (AssertStep ts ∷ []) (staged now below begun)).now below true
  terms_behind (PushStep ∷ steps) now below begun = terms_behind steps now (now ∷ below) true
  terms_behind (PopStep ∷ steps) now [] begun = terms_behind steps now [] begun
  terms_behind (PopStep ∷ steps) now (y ∷ below) begun = terms_behind steps y below begun
  terms_behind (CheckStep ∷ steps) now below begun = terms_behind steps now below begun

  -- the terms that are encoded at the levels which are open at the end are what is built of those that are current
  pub terms_of_stages : (steps : List PlainStep) → (stages_behind enums (built_steps steps) new_stages).now.terms ≡ map built (current steps)
  terms_of_stages steps = terms_behind (built_steps steps) no_stage [] false ∙ current_built steps
