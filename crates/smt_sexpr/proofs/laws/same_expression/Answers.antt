use Rattle.std.proofs.Common.{sym, ◌∙◌}
use Rattle.smt_sexpr.proofs.Same.{eq_from_same, same_from_eq}
use Rattle.smt_sexpr.proofs.laws.same_expression.Goals as goal

pub returns : goal.returns
returns c =
    (λ h. same_from_eq c.args.a.now c.args.b.now (sym c.eq.ensures ∙ h), λ h. c.eq.ensures ∙ eq_from_same c.args.a.now c.args.b.now h)
