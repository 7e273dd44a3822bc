use Rattle.std.proofs.Common.{sym}
use Rattle.smt_clauses.specs.View.{plain_clauses}
use Rattle.smt_search.proofs.Models.{told_at, told_past}
use Rattle.smt_search.proofs.model.holds_at.Goals as goal

pub returns-in-Some : goal.returns-in-Some
returns-in-Some c = told_at c.args.values.now (plain_clauses c.args.clauses.now) c.args.place c.in-Some.clause.now c.holds.result (sym c.in-Some.ensures) c.holds.ensures

pub returns-in-None : goal.returns-in-None
returns-in-None c = told_past c.args.values.now (plain_clauses c.args.clauses.now) c.args.place (sym c.in-None.ensures)
