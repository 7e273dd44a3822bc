use Rattle.std.proofs.Common.{◌≡◌}
use Rattle.std.proofs.lemmas.Result.{IfOk-weaker}
use Rattle.law_folding.specs.AppOf.{IsAppOf}
use Rattle.law_folding.specs.FoldFunctions.{app_of, folded_app}
use Rattle.law_folding.specs.Refinement.{Refines}
use Rattle.smt_factory_core.proofs.FoldingFunctions.{has_value, stands_for_app}
use Rattle.smt_factory_core.proofs.functions.app.Goals as goal
use Rattle.smt_term.specs.Functions.{plain_unary}
use Rattle.smt_term.specs.View.{plain_term}

pub returns-clause-refines : goal.returns-clause-refines
returns-clause-refines c keys =
    IfOk-weaker c.folded_app.result (λ r. plain_term r ≡ folded_app (plain_unary c.args.f) (plain_term c.args.t)) (λ r. Refines (plain_term r) (app_of (plain_unary c.args.f) (plain_term c.args.t)))
    (λ r e. stands_for_app (plain_term r) (plain_unary c.args.f) (plain_term c.args.t) keys e) c.folded_app.ensures

pub returns-clause-value : goal.returns-clause-value
returns-clause-value c keys typed argument =
    IfOk-weaker c.folded_app.result (λ r. plain_term r ≡ folded_app (plain_unary c.args.f) (plain_term c.args.t)) (λ r. IsAppOf (plain_unary c.args.f) (plain_term c.args.t) (plain_term r))
    (λ r e. has_value (plain_term r) c.args.f c.args.t keys typed argument e) c.folded_app.ensures
