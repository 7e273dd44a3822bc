use Rattle.std.proofs.Common.{Bor, ℤ, pos, w64, FitsSigned, ◌≡◌, ℕ, ◌/◌, ◌%◌, List, ◌∷◌, ◌++◌, ap, ap₂, ◌∙◌, sym, subst, arith}
use Rattle.std.specs.Prelude.{unsigned_abs, int_lt}
use Rattle.std.proofs.lemmas.Int.{to_z-of_z}
use Rattle.std.specs.Fmt.{decimal, styled_decimal, HasWritten}
use Rattle.law_texts.specs.Digits.{minus_if, padded}
use Rattle.smt_ext.specs.Printed.{is_below_zero}
use Rattle.smt_ext.proofs.PrintedDecimals.{padded_of_styled, below_zero, not_below_zero}
use Rattle.smt_ext.proofs.decimal.DecimalDisplay.fmt.Goals as goal
use Rattle.smt_ext.proofs.decimal.DecimalDisplay.fmt.Goals.{then-self-lt0, else-self-lt0}

pub returns-clause-writes : goal.returns-clause-writes
returns-clause-writes g c = λ plain ok. (
    let fits : FitsSigned w64 c.args.self.now.ten_thousandths = c.args.self.now.fits in
    let m : c.unsigned_abs-magnitude.result ≡ unsigned_abs c.args.self.now.ten_thousandths = c.unsigned_abs-magnitude.ensures.value ∙ ap unsigned_abs (to_z-of_z w64 c.args.self.now.ten_thousandths fits) in
    let sign : c.if-self-lt0.sign.now ≡ minus_if (is_below_zero c.args.self.now.ten_thousandths) = elim c.if-self-lt0.branch [
      | then-self-lt0 w ↦ ap (λ (s : Bor (List ℕ)). s.now) w.sign-is ∙ sym (ap minus_if (below_zero c.args.self.now.ten_thousandths (ap (λ (z : ℤ). int_lt z (pos 0)) (sym (to_z-of_z w64 c.args.self.now.ten_thousandths fits)) ∙ w.if-self-lt0.true)))
      | else-self-lt0 w ↦ ap (λ (s : Bor (List ℕ)). s.now) w.sign-is ∙ sym (ap minus_if (not_below_zero c.args.self.now.ten_thousandths (ap (λ (z : ℤ). int_lt z (pos 0)) (sym (to_z-of_z w64 c.args.self.now.ten_thousandths fits)) ∙ w.if-self-lt0.false)))
    ] in
    let rest : styled_decimal c.laid_out.result (c.unsigned_abs-magnitude.result % 10000) ≡ padded 4 (c.unsigned_abs-magnitude.result % 10000) = ap (λ s. styled_decimal s (c.unsigned_abs-magnitude.result % 10000)) c.laid_out.ensures ∙ padded_of_styled (c.unsigned_abs-magnitude.result % 10000) (omega arith) in
    let tail : ℕ → List ℕ = λ n. decimal (n / 10000) ++ (46 ∷ padded 4 (n % 10000)) in
    let text = ap₂ (λ (a b : List ℕ). a ++ (decimal (c.unsigned_abs-magnitude.result / 10000) ++ (46 ∷ b))) sign rest ∙ ap (λ (n : ℕ). minus_if (is_below_zero c.args.self.now.ten_thousandths) ++ tail n) m in
    let P : List ℕ → Type 0 = λ t. HasWritten {W = g.row.W.Denot} g.W.Write.write_str_gives c.args.f.now t c.write.new.self in
    subst P text (c.write.ensures.writes plain ok)
    )
