-- The steps of a job: what is asserted, where levels are opened and closed, and where it is asked whether all that is current can be
-- true together.
use Rattle.std.specs.Prelude.{ℕ, zero, suc, bytes_eq, codes, if◌then◌else◌, map, ⊤, List, [], ◌∷◌, ◌++◌, Ok, Err}
use Rattle.law_folding.specs.Built.{built}
use Rattle.law_terms.specs.Plain.{PlainTerm}
use Rattle.law_texts.specs.Lexicon.{Name}
use Rattle.law_texts.specs.Reading.{Expression, Leaf, Node, Expressions, Nil, Cons}
use Rattle.law_jobs.specs.Outcomes.{Outcome, FormFault, UnbalancedFault, followed}
use Rattle.law_texts.specs.Outcomes.{◌>>=◌}
use Rattle.law_jobs.specs.Declarations.{Declared}
use Rattle.law_jobs.specs.Terms.{conditions_of}

-- one step of a job
pub data PlainStep : Type 0 where
  -- these terms are asserted, at the level that is open
  AssertStep : List PlainTerm → PlainStep
  -- a level is opened
  PushStep : PlainStep
  -- the level that was opened last is closed, and what was asserted in it is no longer current
  PopStep : PlainStep
  -- it is asked whether all terms that are current here can be true together
  CheckStep : PlainStep

-- by which section a job gives its steps
pub data Section : Type 0 where
  -- `(terms t ..)`: one step asserts all terms, and a solver is asked once, behind it
  TermsSection : Section
  -- `(steps S ..)`: a solver is asked where a step says so
  StepsSection : Section

-- ---- what expressions state

-- the name in front of what stands in brackets, and what stands behind it: `(name ..)`
abbrev pub headed : Expression → Outcome (List ℕ × Expressions)
headed (Node (Cons (Leaf (Name n)) es)) = Ok (n, es)
headed e = Err FormFault

-- no expression follows, or else the fault that one does
abbrev pub nothing_more : Expressions → Outcome ⊤
nothing_more Nil = Ok tt
nothing_more (Cons e es) = Err FormFault

-- the step of a name and of what stands behind it
abbrev pub step_named : Declared → List ℕ → Expressions → Outcome PlainStep
step_named ds n es =
    if bytes_eq n (codes "assert") then conditions_of ds es >>= (λ ts. Ok (AssertStep ts))
    else (if bytes_eq n (codes "push") then nothing_more es >>= (λ u. Ok PushStep)
    else (if bytes_eq n (codes "pop") then nothing_more es >>= (λ u. Ok PopStep)
    else (if bytes_eq n (codes "check") then nothing_more es >>= (λ u. Ok CheckStep) else Err FormFault)))

-- the step that an expression states: `(assert t ..)`, `(push)`, `(pop)` or `(check)`
abbrev pub step_of : Declared → Expression → Outcome PlainStep
step_of ds e = headed e >>= λ p. step_named ds p.0 p.1

-- how many levels are open behind a step, where so many were open before it; that none is to be closed is a fault
abbrev pub levels_behind : ℕ → PlainStep → Outcome ℕ
levels_behind k PushStep = Ok (suc k)
levels_behind (suc k) PopStep = Ok k
levels_behind zero PopStep = Err UnbalancedFault
levels_behind k (AssertStep ts) = Ok k
levels_behind k CheckStep = Ok k

-- The steps that expressions state, in order, where so many levels are open before them. A step's own faults come before the fault that
-- it closes a level of which none is open.
abbrev pub steps_of : Declared → (levels : ℕ) → Expressions → Outcome (List PlainStep)
steps_of ds k Nil = Ok []
steps_of ds k (Cons e es) = step_of ds e >>= λ s. levels_behind k s >>= λ m. followed s (steps_of ds m es)

-- the steps of a section of this name
abbrev pub section_named : Declared → List ℕ → Expressions → Outcome (Section × List PlainStep)
section_named ds n es =
    if bytes_eq n (codes "terms") then conditions_of ds es >>= (λ ts. Ok (TermsSection, AssertStep ts ∷ []))
    else (if bytes_eq n (codes "steps") then steps_of ds 0 es >>= (λ steps. Ok (StepsSection, steps)) else Err FormFault)

-- ---- what steps say

-- all terms that steps assert, in order
abbrev pub asserted : List PlainStep → List PlainTerm
asserted [] = []
asserted (AssertStep ts ∷ steps) = ts ++ asserted steps
asserted (PushStep ∷ steps) = asserted steps
asserted (PopStep ∷ steps) = asserted steps
asserted (CheckStep ∷ steps) = asserted steps

-- The terms that are current behind steps, where these are current before them, and those at the moments of the pushes whose levels
-- are open, the last first.
abbrev pub current_behind : List PlainTerm → List (List PlainTerm) → List PlainStep → List PlainTerm
current_behind now below [] = now
current_behind now below (AssertStep ts ∷ steps) = current_behind (now ++ ts) below steps
current_behind now below (PushStep ∷ steps) = current_behind now (now ∷ below) steps
current_behind now (ts ∷ below) (PopStep ∷ steps) = current_behind ts below steps
current_behind now [] (PopStep ∷ steps) = current_behind now [] steps
current_behind now below (CheckStep ∷ steps) = current_behind now below steps

-- the terms that are current behind the first steps of a job: all that was asserted, but for what was asserted in levels that are closed
abbrev pub current : List PlainStep → List PlainTerm
current steps = current_behind [] [] steps

-- Each step closes a level only where one is open, with so many open before the first.
abbrev pub AreBalanced : ℕ → List PlainStep → Type 0
AreBalanced k [] = ⊤
AreBalanced k (PushStep ∷ steps) = AreBalanced (suc k) steps
AreBalanced (suc k) (PopStep ∷ steps) = AreBalanced k steps
AreBalanced zero (PopStep ∷ steps) = ⊥
AreBalanced k (AssertStep ts ∷ steps) = AreBalanced k steps
AreBalanced k (CheckStep ∷ steps) = AreBalanced k steps

-- the steps by which a solver is asked: behind those of `terms` stands a check
abbrev pub checked_steps : Section → List PlainStep → List PlainStep
checked_steps TermsSection steps = steps ++ CheckStep ∷ []
checked_steps StepsSection steps = steps

-- a step with its terms as they are built: each application is folded, its operands first
abbrev pub built_step : PlainStep → PlainStep
built_step (AssertStep ts) = AssertStep (map built ts)
built_step PushStep = PushStep
built_step PopStep = PopStep
built_step CheckStep = CheckStep

-- steps with their terms as they are built
abbrev pub built_steps : List PlainStep → List PlainStep
built_steps steps = map built_step steps
