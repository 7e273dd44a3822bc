use Rattle.std.proofs.Common.{sym, ap, ◌∙◌}
use Rattle.smt_term.proofs.SameType.{type_eq-is}
use Rattle.law_terms.specs.Plain.{BoolType}
use Rattle.law_terms.specs.Types.{type_eq}
use Rattle.smt_term.specs.View.{plain_term, plain_type}
use Rattle.smt_term.specs.declared.types.TermType.{Bool}
use Rattle.smt_sexpr.specs.View.{plain}
use Rattle.smt_job_terms.proofs.Reading.{passes_on}
use Rattle.smt_job_terms.proofs.WholeTerms.{condition_fault, declared_formed, is_condition, no_condition}
use Rattle.smt_job_terms.proofs.term.condition_from.Goals as goal

pub returns-in_err-term : goal.returns-in_err-term
returns-in_err-term c ds has =
    passes_on plain_term c.from_residual.result c.in_err-term.field-0.0 _ _ c.from_residual.ensures.1 (c.in_err-term.ensures ds has) (condition_fault ds (plain c.args.expression.now))

pub returns-then-eq : goal.returns-then-eq
unfolding plain_type
returns-then-eq c ds has =
    is_condition ds (declared_formed c.args.declared.now ds has) (plain c.args.expression.now) (plain_term c.in_ok-term.term) (c.in_ok-term.ensures ds has)
    (ap (λ t. type_eq t BoolType) (sym c.in_ok-type_of.ensures) ∙ sym (type_eq-is c.in_ok-type_of.field-0 Bool) ∙ sym c.eq.ensures ∙ c.if-eq.true)

pub returns-else-eq : goal.returns-else-eq
unfolding plain_type
returns-else-eq c ds has =
    no_condition ds (declared_formed c.args.declared.now ds has) (plain c.args.expression.now) (plain_term c.in_ok-term.term) (c.in_ok-term.ensures ds has)
    (ap (λ t. type_eq t BoolType) (sym c.in_ok-type_of.ensures) ∙ sym (type_eq-is c.in_ok-type_of.field-0 Bool) ∙ sym c.eq.ensures ∙ c.if-eq.false)
