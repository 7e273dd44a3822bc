use Rattle.std.proofs.Common.{ℕ, List, sym, subst, w64}
use Rattle.std.proofs.lemmas.Int.{to_z-of_z}
use Rattle.smt_ext.specs.Decimal.{IsDecimalText, IsNoDecimal}
use Rattle.smt_ext.proofs.Decimals.{one_value, refusal_of}
use Rattle.smt_ext.proofs.decimal.Decimal.parse.Goals as goal

pub returns-in-Some-clause-accepts : goal.returns-in-Some-clause-accepts
returns-in-Some-clause-accepts c = λ v d. (
    let P : List ℕ → Type 0 = λ text. IsDecimalText text v in
    let e = one_value c.as_bytes.result.now c.in-Some.ten_thousandths v c.in-Some.ensures.found (subst P (sym c.as_bytes.ensures.value) d) in
    rw e (to_z-of_z w64 v d.fits)
    )

pub returns-in-None-clause-accepts : goal.returns-in-None-clause-accepts
returns-in-None-clause-accepts c = λ v d. (
    let P : List ℕ → Type 0 = λ text. IsDecimalText text v in
    c.in-None.ensures.none v (subst P (sym c.as_bytes.ensures.value) d)
    )

pub returns-in-None-clause-refused : goal.returns-in-None-clause-refused
returns-in-None-clause-refused c =
    let P : List ℕ → Type 0 = λ text. IsNoDecimal text in
    refusal_of c.args.s.now c.with_text.result c.with_text.ensures (subst P c.as_bytes.ensures.value c.in-None.ensures.none)
