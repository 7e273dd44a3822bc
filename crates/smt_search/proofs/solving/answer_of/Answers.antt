use Rattle.std.proofs.Common.{◌∙◌, sym}
use Rattle.smt_clauses.specs.View.{plain_clauses}
use Rattle.smt_search.proofs.Models.{told_solved}
use Rattle.smt_search.proofs.solving.answer_of.Goals as goal

pub returns-then-solves-clause-right : goal.returns-then-solves-clause-right
returns-then-solves-clause-right c = told_solved c.new.result c.as_slice.result.now (plain_clauses c.args.formula.now) (c.new.ensures ∙ sym c.as_slice.ensures.value) c.if-solves.ensures
