use Rattle.std.proofs.Common.{ap, sym, ◌∙◌, length}
use Rattle.law_texts.specs.Reading.{Node}
use Rattle.law_verdicts.specs.Fragment as fragment
use Rattle.law_verdicts.specs.Fragment.{is_truth_name}
use Rattle.smt_mini.proofs.Formulas.{else_connective, one_formula_more, then_connective}
use Rattle.smt_sexpr.proofs.Shapes.{bracketed, headed, nothing_listed, others}
use Rattle.smt_mini.proofs.formula.+formula.Goals as goal

pub are_formulas-loop-operand-preserved : goal.are_formulas-loop-operand-preserved
are_formulas-loop-operand-preserved t c s f =
    one_formula_more (is_truth_name s) c.args.operands.now c.loop-operand.operand-index c.operand-item.result c.loop-operand-test.true c.operand-item.is (sym (c.is_formula.ensures s f) ∙ c.if-not-is_formula.false)
    ∙ c.loop-operand.invariant s f

pub is_formula-returns-in_default : goal.is_formula-returns-in_default
is_formula-returns-in_default t c s f =
    sym (ap (fragment.is_formula (is_truth_name s)) (bracketed _ c.in-App.inside _ c.in-App.is c.items-items.ensures ∙ ap Node (nothing_listed c.items-items.result.now c.in_default.len_below)))

pub is_formula-returns-then-is_connective : goal.is_formula-returns-then-is_connective
is_formula-returns-then-is_connective t c s f =
    then_connective (is_truth_name s) _ _ (others c.items-items.result.now) _
    (headed _ c.in-App.inside c.items-items.result.now c.head-item.result _ c.in-App.is c.items-items.ensures c.in-len1-up.len_at_least c.head-item.is c.in-Some.ensures)
    (ap (λ n. fragment.is_connective n (length (others c.items-items.result.now))) (sym c.as_str-in-Some.ensures.value) ∙ sym c.is_connective.ensures ∙ c.if-is_connective.true)
    (c.are_formulas.ensures s f)

pub is_formula-returns-else-is_connective : goal.is_formula-returns-else-is_connective
is_formula-returns-else-is_connective t c s f =
    else_connective (is_truth_name s) _ _ (others c.items-items.result.now) _
    (headed _ c.in-App.inside c.items-items.result.now c.head-item.result _ c.in-App.is c.items-items.ensures c.in-len1-up.len_at_least c.head-item.is c.in-Some.ensures)
    (c.is_connective.ensures ∙ ap (λ n. fragment.is_connective n (length (others c.items-items.result.now))) c.as_str-in-Some.ensures.value)
    c.if-is_connective.false
