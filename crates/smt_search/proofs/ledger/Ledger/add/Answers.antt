use Rattle.std.proofs.Common.{subst, sym}
use Rattle.law_clauses.specs.Clauses.{Solves}
use Rattle.smt_clauses.specs.View.{plain_clauses}
use Rattle.smt_clauses.proofs.Chains.{solved_more}
use Rattle.smt_search.proofs.ledger.Ledger.add.Goals as goal

pub returns : goal.returns
returns c v a t = record {
  clauses = subst (Solves v) (sym c.in_ok-push.ensures.ok) (solved_more v (plain_clauses c.args.self.now.clauses) c.args.clause.now a.clauses t);
  kept = a.kept;
  left = a.left;
}
