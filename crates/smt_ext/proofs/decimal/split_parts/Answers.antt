use Rattle.std.proofs.Common.{◌≡◌, ap, sym, ◌∙◌, arith, length}
use Rattle.std.proofs.lemmas.Bool.{false≢true}
use Rattle.law_texts.specs.Digits.{is_numeral}
use Rattle.smt_ext.proofs.Decimals.{parts_are}
use Rattle.law_texts.proofs.Runs.{head_is}
use Rattle.smt_ext.proofs.decimal.split_parts.Goals as goal
use Rattle.smt_ext.proofs.decimal.split_parts.Goals.{else-are_digits-via-then-are_digits+then-are_digits-2+else-fraction-le4, else-are_digits-via-then-are_digits+else-are_digits-2, else-are_digits-via-else-are_digits}

pub returns-in_err-fraction-clause-none : goal.returns-in_err-fraction-clause-none
returns-in_err-fraction-clause-none c =
    rw c.from_residual.ensures (λ n w f p. (
    let u = parts_are c.args.text.now _ _ _ w f _ n c.split_minus-negative.ensures c.split_digits.ensures p in
    c.in_err-fraction.ensures.none f u.2
    ))

pub returns-else-are_digits-clause-none : goal.returns-else-are_digits-clause-none
returns-else-are_digits-clause-none c = λ n w f p. (
    let u = parts_are c.args.text.now _ _ _ w f _ n c.split_minus-negative.ensures c.split_digits.ensures p in
    let behind : c.in_ok-fraction.fraction.now ≡ f = (head_is _ _ _ _ (sym c.in_ok-fraction.ensures.found ∙ u.2)).1 in
    elim c.else-are_digits.branch [
      | else-are_digits-via-then-are_digits+then-are_digits-2+else-fraction-le4 w ↦ (let l = ap length behind in let q = p.places in omega arith)
      | else-are_digits-via-then-are_digits+else-are_digits-2 w ↦ false≢true (w.if-are_digits-2.ensures ∙ ap is_numeral behind ∙ p.fraction_digits)
      | else-are_digits-via-else-are_digits w ↦ false≢true (w.if-are_digits.ensures ∙ ap is_numeral u.1 ∙ p.whole_digits)
    ])
