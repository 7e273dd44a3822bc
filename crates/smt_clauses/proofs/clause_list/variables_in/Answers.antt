use Rattle.std.proofs.Common.{◌∙◌}
use Rattle.smt_clauses.proofs.Variables.{count_in-step}
use Rattle.smt_clauses.proofs.clause_list.variables_in.Goals as goal

pub loop-literal-preserved : goal.loop-literal-preserved
loop-literal-preserved c = c.max-count.ensures ∙ count_in-step c.args.clause.now c.loop-literal.literal-index c.loop-literal.count c.loop-literal-test.true c.loop-literal.invariant
