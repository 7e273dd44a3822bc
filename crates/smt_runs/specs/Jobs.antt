-- Why no job is read of bytes, and why a job has no script.
use Rattle.std.specs.Prelude.{ℕ, ◌≡◌, ◌≤◌, ⊤, is_some, length, IfSome, IsTrue, List, Option, Some, None}
use Rattle.law_terms.specs.Faults.{Fault, EmptyEnum as EnumFault, EncodeStringFailed as StringFault, EncodePatternFailed as PatternFault}
use Rattle.law_terms.specs.Faults.{EnumMissingMember as MemberFault, ExpectRecord as NoRecordFault, MalformedRecordGet as NoOperandFault}
use Rattle.law_terms.specs.Faults.{MissingTypeEncoding as TypeFault, RecordMissingAttr as AttributeFault}
use Rattle.law_terms.specs.Plain.{PatternPart, PlainType}
use Rattle.smt_sexpr.specs.Refusals.{IsRefused}
use Rattle.smt_sexpr.specs.declared.error.SExprParseError.{SExprParseError}
use Rattle.smt_sexpr.specs.declared.error.SExprParseError.TheVariants.{TooDeep as TextTooDeep}
use Rattle.law_jobs.specs.Jobs.{HasFault, IsBuiltFrom, IsJob, IsTooLong, PlainJob, fault_of, greatest_length, greatest_nesting}
use Rattle.law_jobs.specs.Outcomes.{JobFault, DuplicateFault, FormFault, LiteralFault, TruthFault, TypeFault as NoTypeFault, TypingFault}
use Rattle.law_jobs.specs.Outcomes.{UnbalancedFault, UnknownFault, WidthFault}
use Rattle.smt_jobs.specs.Numbered.{numbered_job}
use Rattle.smt_jobs.specs.Refused.{IsTextFault}
use Rattle.smt_jobs.specs.StepView.{plain_section}
use Rattle.smt_jobs.specs.declared.numbered.NumberedJob.{NumberedJob}
use Rattle.smt_runs.specs.declared.refusal.EncodeRefusal.{EncodeRefusal}
use Rattle.smt_runs.specs.declared.refusal.EncodeRefusal.TheVariants.{EmptyEnum, EncodeStringFailed, EncodePatternFailed, EnumMissingMember}
use Rattle.smt_runs.specs.declared.refusal.EncodeRefusal.TheVariants.{ExpectRecord, MalformedRecordGet, MissingTypeEncoding}
use Rattle.smt_runs.specs.declared.refusal.EncodeRefusal.TheVariants.{RecordMissingAttr}
use Rattle.smt_runs.specs.declared.refusal.JobRefusal.{JobRefusal}
use Rattle.smt_runs.specs.declared.refusal.JobRefusal.TheVariants.{TooLarge, Parse, TooDeep, BadForm, UnknownName, DuplicateName, BadType}
use Rattle.smt_runs.specs.declared.refusal.JobRefusal.TheVariants.{BadWidth, BadLiteral, IllTyped, NotBool, Unbalanced}
use Rattle.smt_runs.specs.declared.refusal.Refusal.{Refusal}
use Rattle.smt_runs.specs.declared.refusal.Refusal.TheVariants.{Job, Encode, Source, Sink, Memory}

-- some job has these bytes
abbrev pub IsAJob : List ℕ → Type 0
IsAJob bytes = (job : PlainJob) × IsJob bytes job

-- no job has these bytes
abbrev pub IsNoJob : List ℕ → Type 0
IsNoJob bytes = (job : PlainJob) → IsJob bytes job → ⊥

-- there is a fault, and it is of this kind
abbrev pub IsFaultOf : EncodeRefusal → Option Fault → Type 0
IsFaultOf EnumMissingMember fault = (type : List ℕ) × (id : List ℕ) × (fault ≡ Some (MemberFault type id))
IsFaultOf EncodeStringFailed fault = (text : List ℕ) × (fault ≡ Some (StringFault text))
IsFaultOf EncodePatternFailed fault = (pattern : List PatternPart) × (fault ≡ Some (PatternFault pattern))
IsFaultOf EmptyEnum fault = (type : List ℕ) × (fault ≡ Some (EnumFault type))
IsFaultOf MalformedRecordGet fault = fault ≡ Some NoOperandFault
IsFaultOf MissingTypeEncoding fault = (type : PlainType) × (fault ≡ Some (TypeFault type))
IsFaultOf ExpectRecord fault = (type : PlainType) × (fault ≡ Some (NoRecordFault type))
IsFaultOf RecordMissingAttr fault = (attribute : List ℕ) × (fault ≡ Some (AttributeFault attribute))

-- a job has these bytes, and the first fault of what is built of it is of this kind
abbrev pub HasFaultOf : EncodeRefusal → List ℕ → Type 0
HasFaultOf kind bytes = (job : PlainJob) × IsJob bytes job × IsFaultOf kind (fault_of job)

-- a job has these bytes, and what is built of it has no fault
abbrev pub IsFaultlessJob : List ℕ → Type 0
IsFaultlessJob bytes = (job : PlainJob) × IsJob bytes job × (fault_of job ≡ None)

-- a job has these bytes, and what is built of it has a fault
abbrev pub IsFaultyScript : List ℕ → Type 0
IsFaultyScript bytes = (job : PlainJob) × IsJob bytes job × IsTrue (is_some (fault_of job))

-- the kind of a fault of a job, as the program names it
abbrev pub kind_of : JobFault → JobRefusal
kind_of FormFault = BadForm
kind_of (UnknownFault name) = UnknownName
kind_of (DuplicateFault name) = DuplicateName
kind_of NoTypeFault = BadType
kind_of WidthFault = BadWidth
kind_of (LiteralFault text) = BadLiteral
kind_of TypingFault = IllTyped
kind_of TruthFault = NotBool
kind_of UnbalancedFault = Unbalanced

-- The bytes are no job: there are too many, or they are no expression, or their first fault is of this kind.
abbrev pub IsRefusedAs : JobRefusal → List ℕ → Type 0
IsRefusedAs TooLarge bytes = IsTooLong bytes
IsRefusedAs Parse bytes = (length bytes ≤ greatest_length) × ((fault : SExprParseError) × IsTextFault fault bytes)
IsRefusedAs TooDeep bytes = (length bytes ≤ greatest_length) × IsRefused TextTooDeep greatest_nesting bytes
IsRefusedAs kind bytes = (fault : JobFault) × (kind_of fault ≡ kind) × HasFault bytes fault

-- ---- reading and printing: `failed` is the fact that a count of faults rose

-- A job was read of bytes, which are what the source had left, where it told that.
pub record IsReadOf (remaining : Option (List ℕ)) (job : NumberedJob) : Type 0 where
  pub bytes : List ℕ
  pub told : IfSome remaining (λ told. told ≡ bytes)
  pub is_built : IsBuiltFrom bytes (plain_section job.section) (numbered_job job)

-- why no job was read
abbrev pub HasReadCause : (left : Option (List ℕ)) → (failed : Type 0) → Refusal → Type 0
HasReadCause left failed (Job kind) = IfSome left (IsRefusedAs kind)
HasReadCause left failed Source = failed
HasReadCause left failed Memory = ⊤
HasReadCause left failed refusal = ⊥

-- why no script was put of terms with this first fault
abbrev pub HasPrintCause : Option Fault → (failed : Type 0) → Refusal → Type 0
HasPrintCause fault failed (Encode kind) = IsFaultOf kind fault
HasPrintCause fault failed Sink = failed
HasPrintCause fault failed Memory = ⊤
HasPrintCause fault failed refusal = ⊥
