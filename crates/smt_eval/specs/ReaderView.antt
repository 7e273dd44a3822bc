-- What values are read by, and what reading them gives.
use Rattle.std.specs.Prelude.{ℕ, ◌≡◌, ⊤, Bool, true, cond, List, Option, Some, None, Ok, Err, Result, is_some}
use Rattle.std.specs.BTreeSet.{BTreeSet, contains}
use Rattle.std.specs.Map.{lookup}
use Rattle.std.specs.Option.{option_or}
use Rattle.law_assignments.specs.Assignments.{PlainAssignment, is_of_other_family}
use Rattle.law_assignments.specs.Covered.{gives}
use Rattle.law_assignments.specs.Inputs.{greatest_input_nesting}
use Rattle.law_assignments.specs.Outcomes.{InputFault, InputOutcome}
use Rattle.law_jobs.specs.Declarations.{Declared}
use Rattle.law_jobs.specs.Jobs.{PlainJob, built_job}
use Rattle.law_terms.specs.Plain.{ExtensionOp, PlainTerm}
use Rattle.law_terms.specs.TermOrder.{term_eq}
use Rattle.law_texts.specs.Outcomes.{◌>>=◌}
use Rattle.smt_job_terms.specs.DeclarationView.{HasDeclared}
use Rattle.smt_sexpr.specs.Refusals.{IsRefused}
use Rattle.smt_sexpr.specs.declared.error.SExprParseError.TheVariants.{TooDeep as TextTooDeep}
use Rattle.smt_term.specs.View.{plain_term}
use Rattle.smt_term.specs.contracts.term.TermOrd.TheImpl as term_order
use Rattle.smt_term.specs.declared.term.Term.{Term}
use Rattle.smt_term.specs.Enums.{enums_of}
use Rattle.smt_eval.specs.InputRefused.{IsInputFaultIn, IsInputTextFault}
use Rattle.smt_eval.specs.declared.error.EvalError.{EvalError}
use Rattle.smt_eval.specs.declared.error.EvalError.TheVariants.{Parse, TooDeep, Memory}
use Rattle.smt_eval.specs.declared.values.Reader.{Reader}

-- A reader reads values of what is declared.
pub record ReadsFor (r : Reader) (ds : Declared) : Type 0 where
  pub declares : HasDeclared r.declared ds
  pub lists : enums_of r.enums.now ≡ ds.enums

-- which keys a table takes: that of a selector ranges of the other family, and every other table all keys
abbrev pub takes_key : Option ExtensionOp → PlainTerm → Bool
takes_key (Some o) k = is_of_other_family o k
takes_key None k = true

-- The set has the keys of pairs.
abbrev pub HasKeys : BTreeSet Term → List (PlainTerm × PlainTerm) → Type 0
HasKeys keys pairs = (k : Term) → contains term_order.ghosts.cmp keys k ≡ is_some (lookup (term_eq (plain_term k)) pairs)

-- The error is this fault; `Memory` is free.
abbrev pub IsInputFault : EvalError → InputFault → Type 0
IsInputFault error fault = IsInputFaultIn {B = PlainTerm} error (Err fault)

-- What is stated has come to be, and an error names the fault that is stated.
abbrev pub ComesToBe : {A B : Type 0} → (B → Type 0) → Result A EvalError → InputOutcome B → Type 0
ComesToBe has (Err error) stated = IsInputFaultIn error stated
ComesToBe {B = B} has (Ok u) stated = (b : B) × (stated ≡ Ok b) × has b

-- The bytes are no expression, by this error; of a want of memory nothing is said.
abbrev pub IsUnreadableInput : EvalError → List ℕ → Type 0
IsUnreadableInput (Parse fault) bytes = IsInputTextFault fault bytes
IsUnreadableInput TooDeep bytes = IsRefused TextTooDeep greatest_input_nesting bytes
IsUnreadableInput Memory bytes = ⊤
IsUnreadableInput error bytes = ⊥

-- an input, its job with its terms as they are built
abbrev pub built_input : InputOutcome (PlainJob × PlainAssignment) → InputOutcome (PlainJob × PlainAssignment)
built_input o = o >>= λ p. Ok (built_job p.0, p.1)

-- the first that is missing of a term's parts, or else the term, where it is missing itself
abbrev pub missing_behind : PlainAssignment → Option PlainTerm → PlainTerm → Option PlainTerm
missing_behind a inside t = option_or inside (cond (gives a t) None (Some t))
