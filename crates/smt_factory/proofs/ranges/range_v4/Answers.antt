use Rattle.std.proofs.lemmas.Result.{IfOk-weaker}
use Rattle.law_extensions.specs.ExtensionFunctions.{range_v4}
use Rattle.law_extensions.proofs.FunctionsStand.{functions_stand}
use Rattle.smt_factory.specs.Pairs.{plain_pair}
use Rattle.smt_factory.proofs.FunctionsFold.{both_stand_as}
use Rattle.smt_factory.proofs.ranges.range_v4.Goals as goal
use Rattle.law_folding.specs.Builder.{applied, folding}
use Rattle.smt_term.specs.View.{plain_term}

pub returns-clause-refines : goal.returns-clause-refines
returns-clause-refines c = IfOk-weaker c.folded_range_v4.result _ _ (λ r h. both_stand_as (plain_pair r) (range_v4 folding (plain_term c.args.t)) (range_v4 applied (plain_term c.args.t)) h (functions_stand.range_v4 (plain_term c.args.t))) c.folded_range_v4.ensures
