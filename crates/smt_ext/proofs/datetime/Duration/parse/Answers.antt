use Rattle.std.proofs.Common.{ℕ, List, sym, subst, w64}
use Rattle.std.proofs.lemmas.Int.{to_z-of_z}
use Rattle.smt_ext.specs.declared.datetime.span.Fault.TheVariants.{Form, NoDigits, OutOfRange}
use Rattle.smt_ext.specs.DurationText.{IsDurationText}
use Rattle.smt_ext.proofs.Durations.{one_duration, no_fault}
use Rattle.smt_ext.proofs.datetime.Duration.parse.Goals as goal

pub returns-in-Ok-clause-accepts : goal.returns-in-Ok-clause-accepts
returns-in-Ok-clause-accepts c = λ v d. (
    let P : List ℕ → Type 0 = λ text. IsDurationText text v in
    let e = one_duration c.as_bytes.result.now c.in-Ok.milliseconds v c.in-Ok.ensures.value (subst P (sym c.as_bytes.ensures.value) d) in
    rw e (to_z-of_z w64 v d.fits)
    )

pub returns-in-Err-Form-clause-accepts : goal.returns-in-Err-Form-clause-accepts
returns-in-Err-Form-clause-accepts c = λ v d. (
    let P : List ℕ → Type 0 = λ text. IsDurationText text v in
    no_fault c.as_bytes.result.now v Form (subst P (sym c.as_bytes.ensures.value) d) (rw c.in-Err-Form.field-0-is at c.in-Err-Form.ensures.fault)
    )

pub returns-in-Err-NoDigits-clause-accepts : goal.returns-in-Err-NoDigits-clause-accepts
returns-in-Err-NoDigits-clause-accepts c = λ v d. (
    let P : List ℕ → Type 0 = λ text. IsDurationText text v in
    no_fault c.as_bytes.result.now v NoDigits (subst P (sym c.as_bytes.ensures.value) d) (rw c.in-Err-NoDigits.field-0-is at c.in-Err-NoDigits.ensures.fault)
    )

pub returns-in-Err-OutOfRange-clause-accepts : goal.returns-in-Err-OutOfRange-clause-accepts
returns-in-Err-OutOfRange-clause-accepts c = λ v d. (
    let P : List ℕ → Type 0 = λ text. IsDurationText text v in
    no_fault c.as_bytes.result.now v OutOfRange (subst P (sym c.as_bytes.ensures.value) d) (rw c.in-Err-OutOfRange.field-0-is at c.in-Err-OutOfRange.ensures.fault)
    )
