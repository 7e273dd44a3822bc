-- Why no job was read, and that a job is not refused as none.
use Rattle.std.proofs.Common.{◌≡◌, ℕ, ◌≤◌, true, List, Option, Some, None, Ok, Err, Result, length, refl, sym, ap, ◌∙◌, subst, arith}
use Rattle.std.specs.Prelude.{IfErr, IfSome, IsErrAnd, is_some}
use Rattle.std.proofs.lemmas.Bool.{false≢true}
use Rattle.law_terms.specs.Faults.{Fault}
use Rattle.law_jobs.proofs.Jobs.{job_has_no_fault, job_is_balanced, job_is_short, one_job}
use Rattle.law_jobs.proofs.Steps.{balanced_built}
use Rattle.law_jobs.specs.Steps.{AreBalanced, Section}
use Rattle.law_jobs.specs.Jobs.{IsBuiltFrom, PlainJob, fault_of, greatest_length}
use Rattle.smt_sexpr.proofs.Excluded.{excluded}
use Rattle.smt_sexpr.specs.Refusals.{IsRefused}
use Rattle.smt_sexpr.specs.declared.error.SExprParseError.{SExprParseError}
use Rattle.smt_sexpr.specs.declared.error.SExprParseError.TheVariants.{UnexpectedEnd, Utf8Error, StringParseError, ParseIntError, UnclosedSExpr, TrailingTokens, IntegerOverflow, ZeroWidthBitVec, TooDeep as TextTooDeep, Memory as TextWant}
use Rattle.smt_jobs.specs.Numbered.{numbered_job}
use Rattle.smt_jobs.specs.Refused.{IsRefusal, IsTextFault}
use Rattle.smt_jobs.specs.StepView.{plain_section}
use Rattle.smt_jobs.specs.declared.numbered.NumberedJob.{NumberedJob}
use Rattle.smt_runs.specs.Refusal.{job_refusal}
use Rattle.smt_runs.specs.Runs.{Fails}
use Rattle.smt_runs.specs.Jobs.{HasFaultOf, HasReadCause, IsReadOf, IsAJob, IsFaultOf, IsFaultlessJob, IsFaultyScript, IsRefusedAs}
use Rattle.smt_job_terms.specs.declared.error.JobError.{JobError}
use Rattle.smt_job_terms.specs.declared.error.JobError.TheVariants.{TooLarge as JobTooLarge, Parse as JobParse, TooDeep as JobTooDeep, BadForm as JobBadForm, UnknownName as JobUnknownName, DuplicateName as JobDuplicateName, BadType as JobBadType, BadWidth as JobBadWidth, BadLiteral as JobBadLiteral, IllTyped as JobIllTyped, NotBool as JobNotBool, Unbalanced as JobUnbalanced, Memory as JobWant}
use Rattle.smt_runs.specs.declared.refusal.EncodeRefusal.{EncodeRefusal}
use Rattle.smt_runs.specs.declared.refusal.EncodeRefusal.TheVariants.{EmptyEnum, EncodeStringFailed, EncodePatternFailed, EnumMissingMember, ExpectRecord, MalformedRecordGet, MissingTypeEncoding, RecordMissingAttr}
use Rattle.smt_runs.specs.declared.refusal.JobRefusal.{JobRefusal}
use Rattle.smt_runs.specs.declared.refusal.JobRefusal.TheVariants.{TooLarge, Parse, TooDeep, BadForm, UnknownName, DuplicateName, BadType, BadWidth, BadLiteral, IllTyped, NotBool, Unbalanced}
use Rattle.smt_runs.specs.declared.refusal.Refusal.{Refusal}
use Rattle.smt_runs.specs.declared.refusal.Refusal.TheVariants.{Job, Source, Memory}

-- why bytes were refused as a job
abbrev WhyRefused : List ℕ → Refusal → Type 0
WhyRefused bytes r = HasReadCause (Some bytes) ⊥ r

module _ (bytes : List ℕ) (within : length bytes ≤ greatest_length) where
  why_refused : (error : JobError) → IsRefusal error bytes → WhyRefused bytes (job_refusal error)
  why_refused JobTooLarge refused = absurd (omega (arith, within, refused))
  why_refused (JobParse fault) refused = (refused.0, (fault, refused.1))
  why_refused JobTooDeep refused = refused
  why_refused JobBadForm refused = (_, refl, refused)
  why_refused (JobUnknownName text) refused = (_, refl, refused)
  why_refused (JobDuplicateName text) refused = (_, refl, refused)
  why_refused JobBadType refused = (_, refl, refused)
  why_refused JobBadWidth refused = (_, refl, refused)
  why_refused (JobBadLiteral text) refused = (_, refl, refused)
  why_refused JobIllTyped refused = (_, refl, refused)
  why_refused JobNotBool refused = (_, refl, refused)
  why_refused JobUnbalanced refused = (_, refl, refused)
  why_refused JobWant refused = tt

-- the source failed or not: a cause that needs no failure is one beside it
beside : (source_failed : Type 0) (bytes : List ℕ) (r : Refusal) → WhyRefused bytes r → HasReadCause (Some bytes) source_failed r
beside source_failed bytes (Job kind) h = h
beside source_failed bytes Source h = absurd h
beside source_failed bytes Memory h = tt
beside source_failed bytes r h = absurd h

untold : (source_failed : Type 0) (r : Refusal) (bytes : List ℕ) → WhyRefused bytes r → HasReadCause None source_failed r
untold source_failed (Job kind) bytes h = tt
untold source_failed Source bytes h = absurd h
untold source_failed Memory bytes h = tt
untold source_failed r bytes h = absurd h

cause_read : (remaining : Option (List ℕ)) (source_failed : Type 0) (bytes : List ℕ) (r : Refusal) → IfSome remaining (λ told. told ≡ bytes) → WhyRefused bytes r → HasReadCause remaining source_failed r
cause_read (Some told) source_failed bytes r same h = subst (λ (b : List ℕ). HasReadCause (Some b) source_failed r) (sym same) (beside source_failed bytes r h)
cause_read None source_failed bytes r same h = untold source_failed r bytes h

-- what was read whole and is no job is refused as such
pub job_unread : {T : Type 0} (result : Result T Refusal) (error : JobError) (remaining : Option (List ℕ)) (source_failed : Type 0) (all bytes : List ℕ) → IsErrAnd result (λ r. r ≡ job_refusal error) → IfSome remaining (λ told. told ≡ all) → bytes ≡ all
    → length bytes ≤ greatest_length → IsRefusal error bytes → IfErr result (HasReadCause remaining source_failed)
job_unread (Ok job) error remaining source_failed all bytes e whole same short refused = tt
job_unread (Err r) error remaining source_failed all bytes e whole same short refused =
    subst (λ (x : Refusal). HasReadCause remaining source_failed x) (sym e)
    (cause_read remaining source_failed all (job_refusal error) whole (subst (λ (b : List ℕ). WhyRefused b (job_refusal error)) same (why_refused bytes short error refused)))

-- what failed where no job was read
pub unread_failed : (left : Option (List ℕ)) (failed sink_failed : Type 0) (r : Refusal) → HasReadCause left failed r → Fails failed sink_failed r
unread_failed left failed sink_failed (Job kind) h = tt
unread_failed left failed sink_failed Source h = h
unread_failed left failed sink_failed Memory h = tt
unread_failed left failed sink_failed r h = absurd h

-- what was read of bytes is built of what the source told
pub told_built : (remaining : Option (List ℕ)) (job : NumberedJob) → IsReadOf remaining job → IfSome remaining (λ bytes. IsBuiltFrom bytes (plain_section job.section) (numbered_job job))
told_built None job read = tt
told_built (Some told) job read = subst (λ (b : List ℕ). IsBuiltFrom b (plain_section job.section) (numbered_job job)) (sym read.told) read.is_built

-- ---- jobs and refusals

-- a fault of a kind is a fault
pub is_fault : (kind : EncodeRefusal) (fault : Option Fault) → IsFaultOf kind fault → is_some fault ≡ true
is_fault EncodeStringFailed fault h = ap is_some h.1
is_fault EncodePatternFailed fault h = ap is_some h.1
is_fault EnumMissingMember fault h = ap is_some h.2
is_fault EmptyEnum fault h = ap is_some h.1
is_fault MalformedRecordGet fault h = ap is_some h
is_fault MissingTypeEncoding fault h = ap is_some h.1
is_fault ExpectRecord fault h = ap is_some h.1
is_fault RecordMissingAttr fault h = ap is_some h.1

-- what is built of a job has a fault or not
pub no_fault : (bytes : List ℕ) (kind : EncodeRefusal) → IsFaultlessJob bytes → HasFaultOf kind bytes → ⊥
no_fault bytes kind j h = false≢true (sym (ap is_some j.2) ∙ ap (λ job. is_some (fault_of job)) (one_job bytes j.0 h.0 j.1 h.1) ∙ is_fault kind (fault_of h.0) h.2)

pub some_fault : (bytes : List ℕ) → IsFaultyScript bytes → IsFaultlessJob bytes → ⊥
some_fault bytes j h = false≢true (sym (ap is_some h.2) ∙ ap (λ job. is_some (fault_of job)) (one_job bytes h.0 j.0 h.1 j.1) ∙ j.2)

-- a job is an expression
unreadable : (bytes : List ℕ) (fault : SExprParseError) → (fault ≡ TextWant → ⊥) → IsAJob bytes → IsRefused fault 512 bytes → ⊥
unreadable bytes fault given j r = given (excluded fault 512 bytes j.1.expression r j.1.read)

no_text_fault : (bytes : List ℕ) (fault : SExprParseError) → IsAJob bytes → IsTextFault fault bytes → ⊥
no_text_fault bytes TextTooDeep j f = f
no_text_fault bytes TextWant j f = f
no_text_fault bytes UnexpectedEnd j f = unreadable bytes UnexpectedEnd (λ e. cc) j f
no_text_fault bytes Utf8Error j f = unreadable bytes Utf8Error (λ e. cc) j f
no_text_fault bytes (StringParseError raw) j f = unreadable bytes (StringParseError raw) (λ e. cc) j f
no_text_fault bytes (ParseIntError x) j f = unreadable bytes (ParseIntError x) (λ e. cc) j f
no_text_fault bytes UnclosedSExpr j f = unreadable bytes UnclosedSExpr (λ e. cc) j f
no_text_fault bytes TrailingTokens j f = unreadable bytes TrailingTokens (λ e. cc) j f
no_text_fault bytes IntegerOverflow j f = unreadable bytes IntegerOverflow (λ e. cc) j f
no_text_fault bytes ZeroWidthBitVec j f = unreadable bytes ZeroWidthBitVec (λ e. cc) j f

-- a job is not refused as none
pub not_refused : (bytes : List ℕ) (kind : JobRefusal) → IsAJob bytes → IsRefusedAs kind bytes → ⊥
not_refused bytes TooLarge j h = job_is_short bytes j.0 j.1 h
not_refused bytes Parse j h = no_text_fault bytes h.1.0 j h.1.1
not_refused bytes TooDeep j h = unreadable bytes TextTooDeep (λ e. cc) j h.1
not_refused bytes BadForm j h = job_has_no_fault bytes j.0 h.0 j.1 h.2
not_refused bytes UnknownName j h = job_has_no_fault bytes j.0 h.0 j.1 h.2
not_refused bytes DuplicateName j h = job_has_no_fault bytes j.0 h.0 j.1 h.2
not_refused bytes BadType j h = job_has_no_fault bytes j.0 h.0 j.1 h.2
not_refused bytes BadWidth j h = job_has_no_fault bytes j.0 h.0 j.1 h.2
not_refused bytes BadLiteral j h = job_has_no_fault bytes j.0 h.0 j.1 h.2
not_refused bytes IllTyped j h = job_has_no_fault bytes j.0 h.0 j.1 h.2
not_refused bytes NotBool j h = job_has_no_fault bytes j.0 h.0 j.1 h.2
not_refused bytes Unbalanced j h = job_has_no_fault bytes j.0 h.0 j.1 h.2

-- the steps of what is built of a job are balanced
pub built_balanced : (bytes : List ℕ) (section : Section) (job : PlainJob) → IsBuiltFrom bytes section job → AreBalanced 0 job.steps
built_balanced bytes section job is =
    subst (λ (j : PlainJob). AreBalanced 0 j.steps) (sym is.is_built) (balanced_built 0 is.written.steps (job_is_balanced bytes is.written is.is_job))
