-- Why a run is refused.
use Rattle.std.specs.Prelude.{ℕ, ◌≡◌, ◌≤◌, ⊤, length, IfSome, List, Option}
use Rattle.law_assignments.specs.Assignments.{PlainAssignment}
use Rattle.law_assignments.specs.Inputs.{IsFaultyInput, IsInput, greatest_input_nesting}
use Rattle.law_assignments.specs.Outcomes.{InputFault, FormlessInput, RefusedJob, UnknownEntry, DuplicateEntry, NoValue, MissingEntry}
use Rattle.law_jobs.specs.Jobs.{IsTooLong, PlainJob, greatest_length}
use Rattle.smt_sexpr.specs.Refusals.{IsRefused}
use Rattle.smt_sexpr.specs.declared.error.SExprParseError.{SExprParseError}
use Rattle.smt_sexpr.specs.declared.error.SExprParseError.TheVariants.{TooDeep as TextTooDeep}
use Rattle.smt_eval.specs.InputRefused.{IsInputTextFault}
use Rattle.smt_runs.specs.Runs.{Around}
use Rattle.smt_runs.specs.declared.refusal.InputRefusal.{InputRefusal}
use Rattle.smt_runs.specs.declared.refusal.InputRefusal.TheVariants.{TooLarge, Parse, TooDeep, BadForm, Job, UnknownName, DuplicateName}
use Rattle.smt_runs.specs.declared.refusal.InputRefusal.TheVariants.{NotValue, Missing}
use Rattle.smt_runs.specs.declared.refusal.Refusal.{Refusal}
use Rattle.smt_runs.specs.declared.refusal.Refusal.TheVariants.{Input, Source, Sink, Memory}

-- ---- inputs

-- some job with an assignment has these bytes
abbrev pub IsAnInput : List ℕ → Type 0
IsAnInput bytes = (job : PlainJob) × (a : PlainAssignment) × IsInput bytes job a

-- no job with an assignment has these bytes
abbrev pub IsNoInput : List ℕ → Type 0
IsNoInput bytes = (job : PlainJob) (a : PlainAssignment) → IsInput bytes job a → ⊥

-- the kind of a fault of an input, as the program names it
abbrev pub kind_of : InputFault → InputRefusal
kind_of FormlessInput = BadForm
kind_of (RefusedJob fault) = Job
kind_of (UnknownEntry name) = UnknownName
kind_of (DuplicateEntry name) = DuplicateName
kind_of (NoValue name) = NotValue
kind_of (MissingEntry name) = Missing

-- The bytes are no input: there are too many, or they are no expression, or their first fault is of this kind.
abbrev pub IsRefusedAs : InputRefusal → List ℕ → Type 0
IsRefusedAs TooLarge bytes = IsTooLong bytes
IsRefusedAs Parse bytes = (length bytes ≤ greatest_length) × ((fault : SExprParseError) × IsInputTextFault fault bytes)
IsRefusedAs TooDeep bytes = (length bytes ≤ greatest_length) × IsRefused TextTooDeep greatest_input_nesting bytes
IsRefusedAs kind bytes = (fault : InputFault) × (kind_of fault ≡ kind) × IsFaultyInput bytes fault

-- ---- causes

-- why no input was read of a source, where `failed` is the fact that its count of faults rose
abbrev pub HasReadingCause : (left : Option (List ℕ)) → (failed : Type 0) → Refusal → Type 0
HasReadingCause left failed (Input kind) = IfSome left (IsRefusedAs kind)
HasReadingCause left failed Source = failed
HasReadingCause left failed Memory = ⊤
HasReadingCause left failed refusal = ⊥

-- What is known where the truths of terms were not put, besides what failed. They are put only of an input.
abbrev pub WhyNotEvaluated : (before after : Around (Unit {0})) → Refusal → Type 0
WhyNotEvaluated before after (Input kind) = IfSome before.left (IsRefusedAs kind) × (after.held ≡ before.held)
WhyNotEvaluated before after Source = after.held ≡ before.held
WhyNotEvaluated before after Sink = IfSome before.left IsAnInput
WhyNotEvaluated before after Memory = ⊤
WhyNotEvaluated before after refusal = ⊥
