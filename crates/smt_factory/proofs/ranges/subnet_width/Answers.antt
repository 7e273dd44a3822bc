use Rattle.std.proofs.lemmas.Result.{IfOk-weaker}
use Rattle.smt_bits.specs.Width.{bits_in}
use Rattle.law_extensions.proofs.FunctionsStand.{functions_stand}
use Rattle.smt_factory.proofs.FunctionsFold.{stands_as}
use Rattle.smt_factory.proofs.ranges.subnet_width.Goals as goal
use Rattle.smt_term.specs.View.{plain_term}

pub returns-clause-refines : goal.returns-clause-refines
returns-clause-refines c = IfOk-weaker c.folded_subnet_width.result _ _ (λ r h. stands_as (plain_term r) _ _ h (functions_stand.subnet_width (bits_in c.args.w) (plain_term c.args.prefix))) c.folded_subnet_width.ensures
