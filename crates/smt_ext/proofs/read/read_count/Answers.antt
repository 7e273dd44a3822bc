use Rattle.std.proofs.Common.{◌≡◌, false, true, ap, sym, ◌∙◌, arith}
use Rattle.smt_ext.specs.IpReader.{is_padded}
use Rattle.smt_ext.proofs.IpReads.{no_count, one_count, is_ok}
use Rattle.smt_ext.proofs.IpCounts.{plain_is_decimal, decimal_not_padded}
use Rattle.smt_ext.proofs.read.read_count.Goals as goal

pub returns-then-is_padded-clause-none : goal.returns-then-is_padded-clause-none
returns-then-is_padded-clause-none c =
    let padded : is_padded c.args.digits.now ≡ true = sym (c.is_padded.ensures ∙ ap is_padded c.as_bytes.ensures.value) ∙ c.if-is_padded.true in
    λ count le e. decimal_not_padded count c.args.digits.now (omega arith) e padded

pub returns-in_err-count-clause-none : goal.returns-in_err-count-clause-none
returns-in_err-count-clause-none c =
    rw c.from_residual.ensures
    (λ count le e. no_count c.args.digits.now c.parse.result c.ok.result c.parse.ensures.value.0 c.ok.ensures.value c.in_err-count.was count (omega arith) e)

pub returns-then-count-most-clause-found : goal.returns-then-count-most-clause-found
returns-then-count-most-clause-found c =
    let plain : is_padded c.args.digits.now ≡ false = sym (c.is_padded.ensures ∙ ap is_padded c.as_bytes.ensures.value) ∙ c.if-is_padded.false in
    (c.if-count-most.true, plain_is_decimal c.args.digits.now c.parse.result c.in_ok-count.count plain c.parse.ensures.value.0 (is_ok c.parse.result c.ok.result c.in_ok-count.count c.ok.ensures.value c.in_ok-count.was))

pub returns-else-count-most-clause-none : goal.returns-else-count-most-clause-none
returns-else-count-most-clause-none c =
    λ count le e.
    let same : c.in_ok-count.count ≡ count = one_count c.args.digits.now c.parse.result c.ok.result c.in_ok-count.count c.parse.ensures.value.0 c.ok.ensures.value c.in_ok-count.was count (omega arith) e in
    omega arith
