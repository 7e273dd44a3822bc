-- Why bytes are refused as a job with an assignment.
use Rattle.std.specs.Prelude.{ℕ, ◌≡◌, ◌≤◌, ⊤, length, List, Option, Some, None, option_map, Ok, Err, Result}
use Rattle.std.specs.Rc.{rc_str_bytes}
use Rattle.law_assignments.specs.Inputs.{IsFaultyInput, greatest_input_nesting}
use Rattle.law_assignments.specs.Outcomes.{InputFault, InputOutcome, FormlessInput, RefusedJob, UnknownEntry, DuplicateEntry, NoValue}
use Rattle.law_assignments.specs.Outcomes.{MissingEntry}
use Rattle.law_jobs.specs.Jobs.{IsTooLong, greatest_length}
use Rattle.smt_sexpr.specs.Refusals.{IsRefused}
use Rattle.smt_sexpr.specs.declared.error.SExprParseError.{SExprParseError}
use Rattle.smt_sexpr.specs.declared.error.SExprParseError.TheVariants.{TooDeep as TextTooDeep, Memory as TextWant}
use Rattle.smt_job_terms.specs.ReadAs.{fault_in}
use Rattle.smt_eval.specs.declared.error.EvalError.{EvalError}
use Rattle.smt_eval.specs.declared.error.EvalError.TheVariants.{TooLarge, Parse, TooDeep, BadForm, Job, UnknownName, DuplicateName}
use Rattle.smt_eval.specs.declared.error.EvalError.TheVariants.{NotValue, Missing, Memory}

-- the fault of an input that an error names; an input that is too long, a text that is no expression and a want of memory name none
abbrev pub input_fault_in : EvalError → Option InputFault
input_fault_in TooLarge = None
input_fault_in (Parse fault) = None
input_fault_in TooDeep = None
input_fault_in BadForm = Some FormlessInput
input_fault_in (Job error) = option_map RefusedJob (fault_in error)
input_fault_in (UnknownName name) = Some (UnknownEntry (rc_str_bytes name))
input_fault_in (DuplicateName name) = Some (DuplicateEntry (rc_str_bytes name))
input_fault_in (NotValue name) = Some (NoValue (rc_str_bytes name))
input_fault_in (Missing name) = Some (MissingEntry (rc_str_bytes name))
input_fault_in Memory = None

-- An error names the fault that is stated; `Memory` is free.
abbrev pub IsInputFaultIn : {B : Type 0} → EvalError → InputOutcome B → Type 0
IsInputFaultIn Memory stated = ⊤
IsInputFaultIn error stated = (fault : InputFault) × (input_fault_in error ≡ Some fault) × (stated ≡ Err fault)

-- What was read, seen by view, is what is stated, and an error names the fault that is stated.
abbrev pub IsInputReadAs : {A B : Type 0} → (A → B) → Result A EvalError → InputOutcome B → Type 0
IsInputReadAs view (Ok x) stated = stated ≡ Ok (view x)
IsInputReadAs view (Err e) stated = IsInputFaultIn e stated

-- The first fault of the bytes as one expression, with at most 513 brackets open at a place; that they are too deep and a want of
-- memory have errors of their own.
abbrev pub IsInputTextFault : SExprParseError → List ℕ → Type 0
IsInputTextFault TextTooDeep bytes = ⊥
IsInputTextFault TextWant bytes = ⊥
IsInputTextFault fault bytes = IsRefused fault greatest_input_nesting bytes

-- Why the bytes are refused: they are too many; else they are no expression; else they have a fault as an input. Of a want of
-- memory nothing is said.
abbrev pub IsInputRefusal : EvalError → List ℕ → Type 0
IsInputRefusal TooLarge bytes = IsTooLong bytes
IsInputRefusal (Parse fault) bytes = (length bytes ≤ greatest_length) × IsInputTextFault fault bytes
IsInputRefusal TooDeep bytes = (length bytes ≤ greatest_length) × IsRefused TextTooDeep greatest_input_nesting bytes
IsInputRefusal Memory bytes = ⊤
IsInputRefusal error bytes = (fault : InputFault) × (input_fault_in error ≡ Some fault) × IsFaultyInput bytes fault
