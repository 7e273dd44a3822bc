use Rattle.std.proofs.Common.{subst, sym}
use Rattle.law_clauses.specs.Clauses.{Solves}
use Rattle.smt_clauses.specs.View.{plain_clauses}
use Rattle.smt_clauses.proofs.Chains.{solved_more}
use Rattle.smt_clauses.proofs.Clashes.{solved_at}
use Rattle.smt_search.proofs.ledger.copy_at.Goals as goal

pub returns : goal.returns
returns c v s t = subst (Solves v) (sym c.in_ok-push.ensures.ok) (solved_more v (plain_clauses c.args.copy.now) c.in-Some.clause.now t (solved_at v (plain_clauses c.args.clauses.now) c.args.place c.in-Some.clause.now (sym c.in-Some.ensures) s))
