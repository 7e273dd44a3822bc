-- What the walk over the bytes of a job reads and gives, part by part.
use Rattle.std.specs.Prelude.{ℕ, ◌≡◌, ◌-◌, ◌≤◌, List, [], ◌∷◌, ◌++◌, Ok, Err, Result}
use Rattle.std.specs.Borrow.{Bor}
use Rattle.std.specs.List.{flat_map}
use Rattle.law_texts.specs.Lexicon.{Token, End}
use Rattle.law_texts.specs.Reading.{Expression, Expressions, Nil, Cons, brackets, deepest, expressions, inside, nesting}
use Rattle.law_texts.specs.Tokens.{HasTokens, Spans}
use Rattle.law_jobs.specs.Declarations.{Declared}
use Rattle.law_jobs.specs.Jobs.{IsJob, PlainJob, greatest_nesting}
use Rattle.law_jobs.specs.Outcomes.{Outcome, FormFault}
use Rattle.law_jobs.specs.Steps.{PlainStep, Section, built_steps, headed, levels_behind, nothing_more, section_named, step_named, step_of}
use Rattle.law_texts.specs.Outcomes.{◌>>=◌}
use Rattle.smt_job_terms.specs.ReadAs.{IsFaultIn}
use Rattle.smt_job_terms.specs.declared.error.JobError.{JobError}

-- ---- what stands at the front of a text

-- The text is this expression, within the depth, and then these tokens.
pub record Begins (depth : ℕ) (e : Expression) (bytes : List ℕ) (more : List Token) : Type 0 where
  pub has : HasTokens bytes (brackets e ++ more)
  pub shallow : nesting e ≤ depth

-- The text is these expressions, within the depth, the bracket that closes, and then these tokens.
pub record BeginsInside (depth : ℕ) (es : Expressions) (bytes : List ℕ) (more : List Token) : Type 0 where
  pub has : HasTokens bytes (inside es ++ (End ∷ more))
  pub shallow : deepest es ≤ depth

-- The bytes before the rest are some expressions within the depth.
pub record ReadsSome (bytes : List ℕ) (depth : ℕ) (rest : List ℕ) : Type 0 where
  pub read : List Expression
  pub span : Spans bytes (flat_map brackets read) rest
  pub shallow : deepest (expressions read) ≤ depth

-- The bytes before the rest are one expression within the depth.
abbrev pub ReadsOne : List ℕ → ℕ → List ℕ → Type 0
ReadsOne bytes depth rest = (e : Expression) × Spans bytes (brackets e) rest × (nesting e ≤ depth)

-- The bytes before the rest are some expressions within the depth, and a bracket that closes.
abbrev pub ReadsInside : List ℕ → ℕ → List ℕ → Type 0
ReadsInside bytes depth rest = (closing : List ℕ) × ReadsSome bytes depth closing × Spans closing (End ∷ []) rest

-- ---- what is stated

-- What was found is as P says of what is stated, and an error is the fault that is stated.
abbrev pub Gives : {A B : Type 0} → (A → B → Type 0) → Result A JobError → Outcome B → Type 0
Gives {B = B} P (Ok x) stated = (b : B) × (stated ≡ Ok b) × P x b
Gives P (Err e) stated = IsFaultIn e stated

-- What was found at the front of a text is, by this view, what is stated, and behind it stand the other expressions inside the
-- brackets of a job, and then these tokens.
abbrev pub StandsFirst : {A B : Type 0} → (A → B) → List Token → A × Bor (List ℕ) → B × Expressions → Type 0
StandsFirst view end found stated = (view found.0 ≡ stated.0) × BeginsInside (greatest_nesting - 1) stated.1 found.1.now end

-- Where the text is inside the brackets of a job, what was found at its front is what is stated of the expressions there, and an
-- error is the fault that is stated.
abbrev pub GivesFirst : {A B : Type 0} → (A → B) → List ℕ → Result (A × Bor (List ℕ)) JobError → (Expressions → Outcome (B × Expressions)) →
    Type 0
GivesFirst view bytes found stated =
    (es : Expressions) (end : List Token) → BeginsInside (greatest_nesting - 1) es bytes end →
    Gives (StandsFirst view end) found (stated es)

-- the first of some expressions, and the others
abbrev pub first_and_others : Expressions → Outcome (Expression × Expressions)
first_and_others Nil = Err FormFault
first_and_others (Cons e es) = Ok (e, es)

-- what the first of some expressions states, by this reading, and the expressions behind it
abbrev pub first_by : {A : Type 0} → (Expression → Outcome A) → Expressions → Outcome (A × Expressions)
first_by reads Nil = Err FormFault
first_by reads (Cons e es) = reads e >>= λ a. Ok (a, es)

-- this step, where no expression follows
abbrev pub alone : PlainStep → Expressions → Outcome PlainStep
alone s es = nothing_more es >>= λ u. Ok s

-- a step where so many levels are open, and how many are open behind it
abbrev pub with_levels : (levels : ℕ) → PlainStep → Outcome (PlainStep × ℕ)
with_levels k s = levels_behind k s >>= λ m. Ok (s, m)

-- the step of a name and of what stands behind it, and how many levels are open behind the step
abbrev pub named_in : Declared → (levels : ℕ) → List ℕ → Expressions → Outcome (PlainStep × ℕ)
named_in ds k n es = step_named ds n es >>= with_levels k

-- the step that an expression states, and how many levels are open behind it
abbrev pub step_in : Declared → (levels : ℕ) → Expression → Outcome (PlainStep × ℕ)
step_in ds k e = step_of ds e >>= with_levels k

-- the section of steps that an expression states
abbrev pub section_in : Declared → Expression → Outcome (Section × List PlainStep)
section_in ds e = headed e >>= λ p. section_named ds p.0 p.1

-- The job has these declarations, by this section, and its steps as they are built were taken, behind those that were there.
pub record Takes (declared : Declared) (section : Section) (old new : List PlainStep) (job : Section × PlainJob) : Type 0 where
  pub enums : declared.enums ≡ job.1.enums
  pub variables : declared.variables ≡ job.1.variables
  pub functions : declared.functions ≡ job.1.functions
  pub by_section : section ≡ job.0
  pub takes : new ≡ old ++ built_steps job.1.steps

-- The bytes are a job, by this section, that was taken so.
pub record TakesJob (bytes : List ℕ) (declared : Declared) (section : Section) (old new : List PlainStep) : Type 0 where
  pub written : PlainJob
  pub is_job : IsJob bytes written
  pub is_taken : Takes declared section old new (is_job.section, written)
