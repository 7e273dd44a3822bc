-- Why no input was read, and that an input is not refused as none.
use Rattle.std.proofs.Common.{◌≡◌, ℕ, List, Option, Some, None, Ok, Err, Result, refl, subst, sym, arith}
use Rattle.std.specs.Prelude.{IfErr, IfSome, IsErrAnd, option_map}
use Rattle.law_assignments.specs.Inputs.{IsFaultyInput}
use Rattle.law_assignments.specs.Outcomes.{InputFault, RefusedJob}
use Rattle.law_assignments.proofs.Inputs.{inputs_are_not_refused}
use Rattle.law_jobs.specs.Outcomes.{JobFault}
use Rattle.smt_sexpr.proofs.Excluded.{excluded}
use Rattle.smt_sexpr.specs.Refusals.{IsRefused}
use Rattle.smt_sexpr.specs.declared.error.SExprParseError.{SExprParseError}
use Rattle.smt_sexpr.specs.declared.error.SExprParseError.TheVariants.{UnexpectedEnd, Utf8Error, StringParseError, ParseIntError, UnclosedSExpr, TrailingTokens, IntegerOverflow, ZeroWidthBitVec, TooDeep as TextTooDeep, Memory as TextWant}
use Rattle.smt_eval.specs.InputRefused.{IsInputRefusal, IsInputTextFault}
use Rattle.smt_eval.specs.declared.error.EvalError.{EvalError}
use Rattle.smt_eval.specs.declared.error.EvalError.TheVariants as eval
use Rattle.smt_eval.specs.Causes.{HasReadingCause, IsAnInput, IsRefusedAs, WhyNotEvaluated, kind_of}
use Rattle.smt_runs.specs.Runs.{Around, Fails}
use Rattle.smt_eval.specs.Refused.{eval_refusal}
use Rattle.smt_runs.specs.declared.refusal.InputRefusal.{InputRefusal}
use Rattle.smt_runs.specs.declared.refusal.InputRefusal.TheVariants.{TooLarge, Parse, TooDeep, BadForm, Job, UnknownName, DuplicateName, NotValue, Missing}
use Rattle.smt_runs.specs.declared.refusal.Refusal.{Refusal}
use Rattle.smt_runs.specs.declared.refusal.Refusal.TheVariants.{Input, Source, Memory}

-- why bytes were refused as an input
abbrev WhyRefused : List ℕ → Refusal → Type 0
WhyRefused bytes r = HasReadingCause (Some bytes) ⊥ r

-- a fault that an error names is of the kind that the program names
named : (o : Option InputFault) (fault x : InputFault) (kind : InputRefusal) → o ≡ Some x → kind_of x ≡ kind → o ≡ Some fault → kind_of fault ≡ kind
named o fault x kind is of h = (let same : x ≡ fault = cc in subst (λ (f : InputFault). kind_of f ≡ kind) same of)

-- a fault of a job is one of the input
job_named : (o : Option JobFault) (fault : InputFault) → option_map RefusedJob o ≡ Some fault → kind_of fault ≡ Job
job_named None fault h = absurd cc
job_named (Some f) fault h = (let same : RefusedJob f ≡ fault = cc in subst (λ (g : InputFault). kind_of g ≡ Job) same refl)

module _ (bytes : List ℕ) where
  why_refused : (error : EvalError) → IsInputRefusal error bytes → WhyRefused bytes (eval_refusal error)
  why_refused eval.TooLarge h = h
  why_refused (eval.Parse fault) h = (h.0, (fault, h.1))
  why_refused eval.TooDeep h = h
  why_refused eval.BadForm h = (h.0, named _ h.0 _ BadForm refl refl h.1, h.2)
  why_refused (eval.Job error) h = (h.0, job_named _ h.0 h.1, h.2)
  why_refused (eval.UnknownName name) h = (h.0, named _ h.0 _ UnknownName refl refl h.1, h.2)
  why_refused (eval.DuplicateName name) h = (h.0, named _ h.0 _ DuplicateName refl refl h.1, h.2)
  why_refused (eval.NotValue name) h = (h.0, named _ h.0 _ NotValue refl refl h.1, h.2)
  why_refused (eval.Missing name) h = (h.0, named _ h.0 _ Missing refl refl h.1, h.2)
  why_refused eval.Memory h = tt

-- the source failed or not: a cause that needs no failure is one beside it
beside : (failed : Type 0) (bytes : List ℕ) (r : Refusal) → WhyRefused bytes r → HasReadingCause (Some bytes) failed r
beside failed bytes (Input kind) h = h
beside failed bytes Source h = absurd h
beside failed bytes Memory h = tt
beside failed bytes r h = absurd h

untold : (failed : Type 0) (bytes : List ℕ) (r : Refusal) → WhyRefused bytes r → HasReadingCause None failed r
untold failed bytes (Input kind) h = tt
untold failed bytes Source h = absurd h
untold failed bytes Memory h = tt
untold failed bytes r h = absurd h

cause_read : (remaining : Option (List ℕ)) (failed : Type 0) (bytes : List ℕ) (r : Refusal) → IfSome remaining (λ told. told ≡ bytes) → WhyRefused bytes r → HasReadingCause remaining failed r
cause_read (Some told) failed bytes r same h = subst (λ (b : List ℕ). HasReadingCause (Some b) failed r) (sym same) (beside failed bytes r h)
cause_read None failed bytes r same h = untold failed bytes r h

-- what was read whole and is no input is refused as such
pub input_unread : {T : Type 0} (result : Result T Refusal) (error : EvalError) (remaining : Option (List ℕ)) (failed : Type 0) (all bytes : List ℕ) → IsErrAnd result (λ r. r ≡ eval_refusal error) → IfSome remaining (λ told. told ≡ all) → bytes ≡ all
    → IsInputRefusal error bytes → IfErr result (HasReadingCause remaining failed)
input_unread (Ok input) error remaining failed all bytes e whole same refused = tt
input_unread (Err r) error remaining failed all bytes e whole same refused =
    subst (λ (x : Refusal). HasReadingCause remaining failed x) (sym e)
    (cause_read remaining failed all (eval_refusal error) whole (subst (λ (b : List ℕ). WhyRefused b (eval_refusal error)) same (why_refused bytes error refused)))

-- ---- why a run is refused that did not read an input

-- what failed
pub unread_failed : (left : Option (List ℕ)) (failed sink_failed : Type 0) (r : Refusal) → HasReadingCause left failed r → Fails failed sink_failed r
unread_failed left failed sink_failed (Input kind) h = tt
unread_failed left failed sink_failed Source h = h
unread_failed left failed sink_failed Memory h = tt
unread_failed left failed sink_failed r h = absurd h

-- what is known, where nothing was put
pub unread_known : (before after : Around (Unit {0})) (failed : Type 0) (r : Refusal) → after.held ≡ before.held → HasReadingCause before.left failed r → WhyNotEvaluated before after r
unread_known before after failed (Input kind) same h = (h, same)
unread_known before after failed Source same h = same
unread_known before after failed Memory same h = tt
unread_known before after failed r same h = absurd h

-- ---- an input is not refused as none

-- an input is an expression
unreadable : (bytes : List ℕ) (fault : SExprParseError) → (fault ≡ TextWant → ⊥) → IsAnInput bytes → IsRefused fault 513 bytes → ⊥
unreadable bytes fault given j r = given (excluded fault 513 bytes j.2.expression r j.2.read)

no_text_fault : (bytes : List ℕ) (fault : SExprParseError) → IsAnInput bytes → IsInputTextFault fault bytes → ⊥
no_text_fault bytes TextTooDeep j f = f
no_text_fault bytes TextWant j f = f
no_text_fault bytes UnexpectedEnd j f = unreadable bytes UnexpectedEnd (λ e. cc) j f
no_text_fault bytes Utf8Error j f = unreadable bytes Utf8Error (λ e. cc) j f
no_text_fault bytes (StringParseError raw) j f = unreadable bytes (StringParseError raw) (λ e. cc) j f
no_text_fault bytes (ParseIntError x) j f = unreadable bytes (ParseIntError x) (λ e. cc) j f
no_text_fault bytes UnclosedSExpr j f = unreadable bytes UnclosedSExpr (λ e. cc) j f
no_text_fault bytes TrailingTokens j f = unreadable bytes TrailingTokens (λ e. cc) j f
no_text_fault bytes IntegerOverflow j f = unreadable bytes IntegerOverflow (λ e. cc) j f
no_text_fault bytes ZeroWidthBitVec j f = unreadable bytes ZeroWidthBitVec (λ e. cc) j f

no_fault : (bytes : List ℕ) (fault : InputFault) → IsAnInput bytes → IsFaultyInput bytes fault → ⊥
no_fault bytes fault j h = inputs_are_not_refused.sound bytes j.0 j.1 fault j.2 h

too_short : (bytes : List ℕ) → IsAnInput bytes → IsRefusedAs TooLarge bytes → ⊥
too_short bytes j h = (let short = j.2.short in omega (arith, short, h))

pub not_refused : (bytes : List ℕ) (kind : InputRefusal) → IsAnInput bytes → IsRefusedAs kind bytes → ⊥
not_refused bytes TooLarge j h = too_short bytes j h
not_refused bytes Parse j h = no_text_fault bytes h.1.0 j h.1.1
not_refused bytes TooDeep j h = unreadable bytes TextTooDeep (λ e. cc) j h.1
not_refused bytes BadForm j h = no_fault bytes h.0 j h.2
not_refused bytes Job j h = no_fault bytes h.0 j h.2
not_refused bytes UnknownName j h = no_fault bytes h.0 j h.2
not_refused bytes DuplicateName j h = no_fault bytes h.0 j h.2
not_refused bytes NotValue j h = no_fault bytes h.0 j h.2
not_refused bytes Missing j h = no_fault bytes h.0 j h.2
