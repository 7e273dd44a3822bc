-- Why bytes are refused as a job.
use Rattle.std.specs.Prelude.{ℕ, ◌≡◌, ◌≤◌, ◌⊎◌, ⊤, IfSome, List, length}
use Rattle.law_texts.specs.Reading.{Expression}
use Rattle.law_texts.specs.Tokens.{IsReadWithin}
use Rattle.smt_sexpr.specs.Refusals.{IsRefused}
use Rattle.smt_sexpr.specs.declared.error.SExprParseError.{SExprParseError}
use Rattle.smt_sexpr.specs.declared.error.SExprParseError.TheVariants.{TooDeep as TextTooDeep, Memory as TextWant}
use Rattle.law_jobs.specs.Jobs.{HasFault, IsTooLong, greatest_length, greatest_nesting}
use Rattle.smt_job_terms.specs.ReadAs.{fault_in}
use Rattle.smt_job_terms.specs.declared.error.JobError.{JobError}
use Rattle.smt_job_terms.specs.declared.error.JobError.TheVariants.{TooLarge, Parse, TooDeep, Memory}

-- The first fault of the bytes as one expression, with at most 512 brackets open at a place; that they are too deep and a want of
-- memory have errors of their own.
abbrev pub IsTextFault : SExprParseError → List ℕ → Type 0
IsTextFault TextTooDeep bytes = ⊥
IsTextFault TextWant bytes = ⊥
IsTextFault fault bytes = IsRefused fault greatest_nesting bytes

-- The bytes are no expression within the nesting, by this error; of a want of memory nothing is said.
abbrev pub IsUnreadable : JobError → List ℕ → Type 0
IsUnreadable (Parse fault) bytes = IsTextFault fault bytes
IsUnreadable TooDeep bytes = IsRefused TextTooDeep greatest_nesting bytes
IsUnreadable Memory bytes = ⊤
IsUnreadable error bytes = ⊥

-- Of this fault of a job and what the text says, the first: the fault of the text where the text is no expression.
abbrev pub IsFirstFault : List ℕ → JobError → JobError → Type 0
IsFirstFault bytes fault first = ((e : Expression) × IsReadWithin bytes greatest_nesting e × (first ≡ fault)) ⊎ IsUnreadable first bytes

-- Why the bytes are refused: they are too many; else they are no expression; else they have a fault as a job. Of a want of
-- memory nothing is said.
abbrev pub IsRefusal : JobError → List ℕ → Type 0
IsRefusal TooLarge bytes = IsTooLong bytes
IsRefusal (Parse fault) bytes = (length bytes ≤ greatest_length) × IsTextFault fault bytes
IsRefusal TooDeep bytes = (length bytes ≤ greatest_length) × IsRefused TextTooDeep greatest_nesting bytes
IsRefusal error bytes = IfSome (fault_in error) (HasFault bytes)
