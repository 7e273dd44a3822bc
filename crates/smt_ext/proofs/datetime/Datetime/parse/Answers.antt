use Rattle.std.proofs.Common.{◌≡◌, ℕ, List, ◌∙◌, ap, sym, subst, w64, Some, None}
use Rattle.std.proofs.lemmas.Int.{to_z-of_z}
use Rattle.smt_ext.specs.DatetimeReading.{stamp_at}
use Rattle.smt_ext.specs.DatetimeText.{IsDatetimeText, HasStamp}
use Rattle.smt_ext.proofs.Stamps.{stamp_takes}
use Rattle.smt_ext.proofs.Datetimes.{one_datetime, misshapen_is_none, unreal_is_none, misshapen_by_none, misshapen_by_bar, unreal_by, refusal_of}
use Rattle.smt_ext.proofs.datetime.Datetime.parse.Goals as goal

pub returns-in_default-clause-accepts : goal.returns-in_default-clause-accepts
returns-in_default-clause-accepts c = λ v d. (
    let e : stamp_at c.args.s.now ≡ None = ap stamp_at (sym c.as_bytes.ensures.value) ∙ sym c.stamp_of.ensures ∙ c.in_default.is in
    misshapen_is_none c.args.s.now v (misshapen_by_none c.args.s.now e) d
    )

pub returns-in_default-clause-refused : goal.returns-in_default-clause-refused
returns-in_default-clause-refused c =
    let e : stamp_at c.args.s.now ≡ None = ap stamp_at (sym c.as_bytes.ensures.value) ∙ sym c.stamp_of.ensures ∙ c.in_default.is in
    refusal_of c.args.s.now c.with_text.result c.with_text.ensures (misshapen_by_none c.args.s.now e)

pub returns-then-is_barred_clock-clause-accepts : goal.returns-then-is_barred_clock-clause-accepts
returns-then-is_barred_clock-clause-accepts c = λ v d. (
    let e : stamp_at c.args.s.now ≡ Some c.in-Some.stamp = ap stamp_at (sym c.as_bytes.ensures.value) ∙ sym c.stamp_of.ensures ∙ c.in-Some.is in
    misshapen_is_none c.args.s.now v (misshapen_by_bar c.args.s.now c.in-Some.stamp e (sym c.if-is_barred_clock.ensures)) d
    )

pub returns-then-is_barred_clock-clause-refused : goal.returns-then-is_barred_clock-clause-refused
returns-then-is_barred_clock-clause-refused c =
    let e : stamp_at c.args.s.now ≡ Some c.in-Some.stamp = ap stamp_at (sym c.as_bytes.ensures.value) ∙ sym c.stamp_of.ensures ∙ c.in-Some.is in
    refusal_of c.args.s.now c.with_text-then-is_barred_clock.result c.with_text-then-is_barred_clock.ensures (misshapen_by_bar c.args.s.now c.in-Some.stamp e (sym c.if-is_barred_clock.ensures))

pub moment_of-requires-clause-day : goal.moment_of-requires-clause-day
moment_of-requires-clause-day c = (stamp_takes c.as_bytes.result.now c.in-Some.stamp (sym c.stamp_of.ensures ∙ c.in-Some.is)).day

pub moment_of-requires-clause-clock : goal.moment_of-requires-clause-clock
moment_of-requires-clause-clock c = (stamp_takes c.as_bytes.result.now c.in-Some.stamp (sym c.stamp_of.ensures ∙ c.in-Some.is)).clock

pub returns-in-Some-moment_of-clause-value : goal.returns-in-Some-moment_of-clause-value
returns-in-Some-moment_of-clause-value c =
    let h = stamp_takes c.as_bytes.result.now c.in-Some.stamp (sym c.stamp_of.ensures ∙ c.in-Some.is) in
    let P : List ℕ → Type 0 = λ text. HasStamp text c.in-Some.stamp in
    let m = c.in-Some-moment_of.ensures in
    rw (to_z-of_z w64 c.in-Some-moment_of.milliseconds m.fits) (record { stamp = c.in-Some.stamp; written = subst P c.as_bytes.ensures.value h; allowed = sym c.if-is_barred_clock.ensures; real = m.real; is_value = m.value; fits = m.fits })

pub returns-in-Some-moment_of-clause-accepts : goal.returns-in-Some-moment_of-clause-accepts
returns-in-Some-moment_of-clause-accepts c = λ v d. (
    let h = stamp_takes c.as_bytes.result.now c.in-Some.stamp (sym c.stamp_of.ensures ∙ c.in-Some.is) in
    let P : List ℕ → Type 0 = λ text. HasStamp text c.in-Some.stamp in
    let m = c.in-Some-moment_of.ensures in
    let mine : IsDatetimeText c.args.s.now c.in-Some-moment_of.milliseconds = record { stamp = c.in-Some.stamp; written = subst P c.as_bytes.ensures.value h; allowed = sym c.if-is_barred_clock.ensures; real = m.real; is_value = m.value; fits = m.fits } in
    to_z-of_z w64 c.in-Some-moment_of.milliseconds m.fits ∙ one_datetime c.args.s.now _ v mine d
    )

pub returns-in-None-clause-accepts : goal.returns-in-None-clause-accepts
returns-in-None-clause-accepts c = λ v d. (
    let e : stamp_at c.args.s.now ≡ Some c.in-Some.stamp = ap stamp_at (sym c.as_bytes.ensures.value) ∙ sym c.stamp_of.ensures ∙ c.in-Some.is in
    unreal_is_none c.args.s.now v (unreal_by c.args.s.now c.in-Some.stamp e (sym c.if-is_barred_clock.ensures) c.in-None.ensures.unreal) d
    )

pub returns-in-None-clause-refused : goal.returns-in-None-clause-refused
returns-in-None-clause-refused c =
    let e : stamp_at c.args.s.now ≡ Some c.in-Some.stamp = ap stamp_at (sym c.as_bytes.ensures.value) ∙ sym c.stamp_of.ensures ∙ c.in-Some.is in
    unreal_by c.args.s.now c.in-Some.stamp e (sym c.if-is_barred_clock.ensures) c.in-None.ensures.unreal
