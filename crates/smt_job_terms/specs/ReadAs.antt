-- What reading an expression of a job gives.
use Rattle.std.specs.Prelude.{◌≡◌, ⊤, ℕ, List, map, Option, Some, None, Ok, Err, Result}
use Rattle.std.specs.Rc.{rc_str_bytes}
use Rattle.law_texts.specs.Reading.{Expressions, expressions}
use Rattle.smt_sexpr.specs.View.{plain}
use Rattle.smt_sexpr.specs.declared.expression.SExpr.{SExpr}
use Rattle.law_jobs.specs.Outcomes.{Outcome, DuplicateFault, FormFault, JobFault, LiteralFault, TruthFault, TypeFault, TypingFault}
use Rattle.law_jobs.specs.Outcomes.{UnbalancedFault, UnknownFault, WidthFault}
use Rattle.smt_job_terms.specs.declared.error.JobError.{JobError}
use Rattle.smt_job_terms.specs.declared.error.JobError.TheVariants.{TooLarge, Parse, TooDeep, BadForm, UnknownName, DuplicateName, BadType}
use Rattle.smt_job_terms.specs.declared.error.JobError.TheVariants.{BadWidth, BadLiteral, IllTyped, NotBool, Unbalanced, Memory}

-- what expressions of the program say, one behind the other
abbrev pub plain_list : List SExpr → Expressions
plain_list es = expressions (map plain es)

-- An error is the fault that is stated, of an expression that is not too long; `Memory` is free.
abbrev pub IsFaultIn : {B : Type 0} → JobError → Outcome B → Type 0
IsFaultIn TooLarge stated = ⊥
IsFaultIn (Parse fault) stated = ⊥
IsFaultIn TooDeep stated = ⊥
IsFaultIn BadForm stated = stated ≡ Err FormFault
IsFaultIn (UnknownName name) stated = stated ≡ Err (UnknownFault (rc_str_bytes name))
IsFaultIn (DuplicateName name) stated = stated ≡ Err (DuplicateFault (rc_str_bytes name))
IsFaultIn BadType stated = stated ≡ Err TypeFault
IsFaultIn BadWidth stated = stated ≡ Err WidthFault
IsFaultIn (BadLiteral text) stated = stated ≡ Err (LiteralFault (rc_str_bytes text))
IsFaultIn IllTyped stated = stated ≡ Err TypingFault
IsFaultIn NotBool stated = stated ≡ Err TruthFault
IsFaultIn Unbalanced stated = stated ≡ Err UnbalancedFault
IsFaultIn Memory stated = ⊤

-- The error is this fault.
abbrev pub IsFault : JobError → JobFault → Type 0
IsFault e fault = IsFaultIn {B = ℕ} e (Err fault)

-- the fault of a job that an error names; a job that is too long, a text that is no expression and a want of memory name none
abbrev pub fault_in : JobError → Option JobFault
fault_in TooLarge = None
fault_in (Parse fault) = None
fault_in TooDeep = None
fault_in BadForm = Some FormFault
fault_in (UnknownName name) = Some (UnknownFault (rc_str_bytes name))
fault_in (DuplicateName name) = Some (DuplicateFault (rc_str_bytes name))
fault_in BadType = Some TypeFault
fault_in BadWidth = Some WidthFault
fault_in (BadLiteral text) = Some (LiteralFault (rc_str_bytes text))
fault_in IllTyped = Some TypingFault
fault_in NotBool = Some TruthFault
fault_in Unbalanced = Some UnbalancedFault
fault_in Memory = None

-- What was read, seen by view, is what is stated, and an error is the fault that is stated.
abbrev pub IsReadAs : {A B : Type 0} → (A → B) → Result A JobError → Outcome B → Type 0
IsReadAs view (Ok x) stated = stated ≡ Ok (view x)
IsReadAs view (Err e) stated = IsFaultIn e stated
