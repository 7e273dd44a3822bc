-- Errors of reading types, terms and jobs, in an input.
use Rattle.std.proofs.Common.{◌≡◌, None, Ok, Err, option_map, refl, sym, ap}
use Rattle.std.specs.Result.{result_ok}
use Rattle.law_assignments.specs.Outcomes.{of_job, RefusedJob}
use Rattle.law_jobs.specs.Outcomes.{Outcome, mapped, DuplicateFault, FormFault, LiteralFault, TruthFault, TypeFault, TypingFault, UnbalancedFault, UnknownFault, WidthFault}
use Rattle.std.specs.Rc.{rc_str_bytes}
use Rattle.smt_job_terms.specs.ReadAs.{IsFaultIn}
use Rattle.smt_job_terms.specs.declared.error.JobError.{JobError}
use Rattle.smt_job_terms.specs.declared.error.JobError.TheVariants.{TooLarge, Parse, TooDeep, BadForm, UnknownName, DuplicateName, BadType, BadWidth, BadLiteral, IllTyped, NotBool, Unbalanced, Memory}
use Rattle.smt_eval.specs.InputRefused.{IsInputFaultIn}
use Rattle.smt_eval.specs.declared.error.EvalError.TheVariants.{Job}

-- what is refused for a fault states nothing
pub states_nothing : {B : Type 0} (e : JobError) (o : Outcome B) → (e ≡ Memory → ⊥) → IsFaultIn e o → None ≡ result_ok o
states_nothing TooLarge o n h = absurd h
states_nothing (Parse f) o n h = absurd h
states_nothing TooDeep o n h = absurd h
states_nothing BadForm o n h = sym (ap result_ok h)
states_nothing (UnknownName x) o n h = sym (ap result_ok h)
states_nothing (DuplicateName x) o n h = sym (ap result_ok h)
states_nothing BadType o n h = sym (ap result_ok h)
states_nothing BadWidth o n h = sym (ap result_ok h)
states_nothing (BadLiteral x) o n h = sym (ap result_ok h)
states_nothing IllTyped o n h = sym (ap result_ok h)
states_nothing NotBool o n h = sym (ap result_ok h)
states_nothing Unbalanced o n h = sym (ap result_ok h)
states_nothing Memory o n h = absurd (n refl)

-- the fault of a job is that of its input
pub job_refused : {B : Type 0} (e : JobError) (o : Outcome B) → (e ≡ Memory → ⊥) → IsFaultIn e o → IsInputFaultIn (Job e) (of_job o)
job_refused TooLarge o n h = absurd h
job_refused (Parse f) o n h = absurd h
job_refused TooDeep o n h = absurd h
job_refused BadForm o n h = (RefusedJob FormFault, refl, ap of_job h)
job_refused (UnknownName x) o n h = (RefusedJob (UnknownFault (rc_str_bytes x)), refl, ap of_job h)
job_refused (DuplicateName x) o n h = (RefusedJob (DuplicateFault (rc_str_bytes x)), refl, ap of_job h)
job_refused BadType o n h = (RefusedJob TypeFault, refl, ap of_job h)
job_refused BadWidth o n h = (RefusedJob WidthFault, refl, ap of_job h)
job_refused (BadLiteral x) o n h = (RefusedJob (LiteralFault (rc_str_bytes x)), refl, ap of_job h)
job_refused IllTyped o n h = (RefusedJob TypingFault, refl, ap of_job h)
job_refused NotBool o n h = (RefusedJob TruthFault, refl, ap of_job h)
job_refused Unbalanced o n h = (RefusedJob UnbalancedFault, refl, ap of_job h)
job_refused Memory o n h = absurd (n refl)

-- what is built of what is stated, where nothing is
pub builds_nothing : {A B : Type 0} (f : A → B) (o : Outcome A) → None ≡ result_ok (mapped f o) → None ≡ option_map f (result_ok o)
builds_nothing f (Ok a) h = h
builds_nothing f (Err e) h = refl
