use Rattle.std.proofs.Common.{true, false, ap, sym, ◌∙◌}
use Rattle.law_terms.specs.Types.{type_eq}
use Rattle.smt_term.proofs.SameType.{type_eq-is}
use Rattle.smt_term.specs.View.{plain_type}
use Rattle.smt_job_terms.proofs.TermsRead.{this_operand}
use Rattle.smt_job_terms.proofs.term.are_of_type.Goals as goal

pub returns-then-not-same-clause-same : goal.returns-then-not-same-clause-same
returns-then-not-same-clause-same c =
    let test = ap (λ t. type_eq t (plain_type c.args.ty.now)) (sym c.in_ok-type_of.ensures) ∙ sym (type_eq-is c.in_ok-type_of.field-0 c.args.ty.now) ∙ sym c.eq-same.ensures in
    sym (c.loop-operand.invariant ∙ this_operand (plain_type c.args.ty.now) c.args.operands.now c.loop-operand.operand-index c.operand-item.result c.loop-operand-test.true c.operand-item.is false (test ∙ c.if-not-same.true))

pub loop-operand-preserved : goal.loop-operand-preserved
loop-operand-preserved c =
    let test = ap (λ t. type_eq t (plain_type c.args.ty.now)) (sym c.in_ok-type_of.ensures) ∙ sym (type_eq-is c.in_ok-type_of.field-0 c.args.ty.now) ∙ sym c.eq-same.ensures in
    c.loop-operand.invariant ∙ this_operand (plain_type c.args.ty.now) c.args.operands.now c.loop-operand.operand-index c.operand-item.result c.loop-operand-test.true c.operand-item.is true (test ∙ c.if-not-same.false)
