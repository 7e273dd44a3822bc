use Rattle.std.proofs.Common.{sym}
use Rattle.smt_clauses.specs.View.{plain_clauses}
use Rattle.smt_clauses.proofs.Clashes.{solved_at}
use Rattle.smt_search.proofs.solving.add_at.Goals as goal

pub returns : goal.returns
returns c before v s = c.in_ok-add.ensures v (before v s) (solved_at v (plain_clauses c.args.formula.now) c.args.place c.in-Some.clause.now (sym c.in-Some.ensures) s)
