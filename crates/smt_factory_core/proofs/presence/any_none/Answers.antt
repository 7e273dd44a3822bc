use Rattle.std.proofs.Common.{rules}
use Rattle.std.proofs.lemmas.Result.{IfOk-weaker}
use Rattle.law_folding.specs.Builder.{folding}
use Rattle.law_folding.specs.Composites.{is_none}
use Rattle.smt_factory_core.proofs.AnyAnswers.{any_folded}
use Rattle.smt_factory_core.proofs.presence.any_none.Goals as goal

pub returns-clause-folded : goal.returns-clause-folded
returns-clause-folded c = IfOk-weaker c.any_true.result _ _ (λ r h. any_folded _ (is_none folding) _ _ (λ t u k. search rules) h) c.any_true.ensures.folded
