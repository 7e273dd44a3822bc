use Rattle.std.proofs.Common.{◌≡◌, sym}
use Rattle.std.specs.Prelude.{Some, false, slice_get}
use Rattle.smt_clauses.specs.View.{plain_clauses}
use Rattle.smt_clauses.proofs.Steps.{zip-at}
use Rattle.smt_clauses.proofs.refutation.step_at.Goals as goal

pub returns-clause-adds : goal.returns-clause-adds
returns-clause-adds c could =
    let kind : slice_get c.args.proof.now.deletes.items c.args.place ≡ Some false = cc in
    (c.in-Some.clause.now, zip-at c.args.proof.now.deletes.items (plain_clauses c.args.proof.now.clauses) c.args.place false c.in-Some.clause.now kind (sym c.in-Some.ensures))
