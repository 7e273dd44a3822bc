use Rattle.std.proofs.Common.{arith}
use Rattle.smt_clauses.specs.View.{plain_clauses}
use Rattle.smt_clauses.proofs.Variables.{clauses_below}
use Rattle.smt_clauses.proofs.clause_list.ClauseList.variables.Goals as goal

pub returns-clause-above : goal.returns-clause-above
returns-clause-above c = clauses_below c.args.self.now.variables (plain_clauses c.args.self.now) (omega (arith, c.args.self.now.counted))
