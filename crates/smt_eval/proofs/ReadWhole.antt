-- What bytes are that are read as an input, and why they are refused.
use Rattle.std.proofs.Common.{◌≡◌, ℕ, ◌≤◌, List, Ok, Err, length, sym, ap, subst}
use Rattle.law_assignments.specs.Assignments.{PlainAssignment}
use Rattle.law_assignments.specs.Inputs.{IsInputBuilt, greatest_input_nesting, input_of}
use Rattle.law_assignments.specs.Outcomes.{InputFault, InputOutcome}
use Rattle.law_jobs.specs.Jobs.{IsTooLong, PlainJob, built_job, greatest_length}
use Rattle.law_texts.specs.Reading.{Expression}
use Rattle.law_texts.specs.Tokens.{IsReadWithin}
use Rattle.smt_eval.specs.InputRefused.{IsInputFaultIn, IsInputRefusal}
use Rattle.smt_eval.specs.ReaderView.{IsUnreadableInput, built_input}
use Rattle.smt_eval.specs.declared.error.EvalError.{EvalError}
use Rattle.smt_eval.specs.declared.error.EvalError.TheVariants.{TooLarge, Parse, TooDeep, BadForm, Job, UnknownName, DuplicateName, NotValue, Missing, Memory}

-- what is built of an outcome has the outcome's fault
fault_before : (o : InputOutcome (PlainJob × PlainAssignment)) (f : InputFault) → built_input o ≡ Err f → o ≡ Err f
fault_before (Ok p) f h = absurd (cc)
fault_before (Err g) f h = (let d : g ≡ f = cc in ap Err d)

-- the job and the assignment of which these are built
record IsBuiltOf (o : InputOutcome (PlainJob × PlainAssignment)) (job : PlainJob) (a : PlainAssignment) : Type 0 where
  written : PlainJob
  is_written : o ≡ Ok (written, a)
  is_built : job ≡ built_job written

built_of : (o : InputOutcome (PlainJob × PlainAssignment)) (job : PlainJob) (a : PlainAssignment) → built_input o ≡ Ok (job, a) → IsBuiltOf o job a
built_of (Ok p) job a h =
    let d : ◌≡◌ {A = PlainJob × PlainAssignment} (built_job p.0, p.1) (job, a) = cc in
    record { written = p.0; is_written = ap (λ x. Ok (p.0, x)) (ap (λ (q : PlainJob × PlainAssignment). q.1) d); is_built = sym (ap (λ (q : PlainJob × PlainAssignment). q.0) d) }
built_of (Err g) job a h = absurd (cc)

module _ (bytes : List ℕ) (short : length bytes ≤ greatest_length) where
  pub unreadable : (error : EvalError) → IsUnreadableInput error bytes → IsInputRefusal error bytes
  unreadable (Parse fault) u = (short, u)
  unreadable TooDeep u = (short, u)
  unreadable Memory u = tt
  unreadable error u = absurd u

  module _ (e : Expression) (read : IsReadWithin bytes greatest_input_nesting e) where
    pub input_read : (job : PlainJob) (a : PlainAssignment) → built_input (input_of e) ≡ Ok (job, a) → IsInputBuilt bytes job a
    input_read job a h =
        let b = built_of (input_of e) job a h in
        record { written = b.written; is_input = record { short = short; expression = e; read = read; stated = b.is_written }; is_built = b.is_built }

    pub faulty : (error : EvalError) → IsInputFaultIn error (built_input (input_of e)) → IsInputRefusal error bytes
    faulty TooLarge h = (let none = h.1 in absurd (cc))
    faulty (Parse fault) h = (let none = h.1 in absurd (cc))
    faulty TooDeep h = (let none = h.1 in absurd (cc))
    faulty BadForm h = (h.0, h.1, record { short = short; expression = e; read = read; stated = fault_before (input_of e) h.0 h.2 })
    faulty (Job x) h = (h.0, h.1, record { short = short; expression = e; read = read; stated = fault_before (input_of e) h.0 h.2 })
    faulty (UnknownName n) h = (h.0, h.1, record { short = short; expression = e; read = read; stated = fault_before (input_of e) h.0 h.2 })
    faulty (DuplicateName n) h = (h.0, h.1, record { short = short; expression = e; read = read; stated = fault_before (input_of e) h.0 h.2 })
    faulty (NotValue n) h = (h.0, h.1, record { short = short; expression = e; read = read; stated = fault_before (input_of e) h.0 h.2 })
    faulty (Missing n) h = (h.0, h.1, record { short = short; expression = e; read = read; stated = fault_before (input_of e) h.0 h.2 })
    faulty Memory h = tt

  -- a refusal for its length is of bytes that are too many
  pub too_large : (error : EvalError) → IsInputRefusal error bytes → error ≡ TooLarge → IsTooLong bytes
  too_large error r h = subst (λ (x : EvalError). IsInputRefusal x bytes) h r
