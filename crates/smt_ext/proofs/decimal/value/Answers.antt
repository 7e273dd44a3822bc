use Rattle.smt_ext.proofs.Decimals.{no_decimal_by_size, no_decimal_by_sign}
use Rattle.smt_ext.proofs.Choices.{none_then}
use Rattle.smt_ext.proofs.decimal.value.Goals as goal

pub returns-in_err-magnitude-clause-none : goal.returns-in_err-magnitude-clause-none
returns-in_err-magnitude-clause-none c =
    rw c.from_residual-in_err-magnitude.ensures (no_decimal_by_size c.args.text.now _ _ _ c.in_ok-parts.ensures.found c.in_err-magnitude.ensures)

pub returns-clause-none : goal.returns-clause-none
returns-clause-none c =
    none_then c.with_sign.result _ c.with_sign.ensures (λ far. no_decimal_by_sign c.args.text.now _ _ _ _ c.in_ok-parts.ensures.found c.in_ok-magnitude.ensures.1 far)
