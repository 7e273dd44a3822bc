use Rattle.law_verdicts.proofs.TruthRows.{rows_stand_alone}
use Rattle.smt_mini.specs.Search.{plain_rows}
use Rattle.smt_mini.proofs.rows.rows_or.Goals as goal

pub returns : goal.returns
returns c r = rows_stand_alone.disjunction r (plain_rows c.args.a) (plain_rows c.args.b)
