use Rattle.smt_solve.proofs.LineLemmas.{appends_none}
use Rattle.smt_solve.proofs.child_line.append_step.Goals as goal

pub returns-in-Err : goal.returns-in-Err
returns-in-Err g c = appends_none _ _ _ _ c.requires c.fill_buf.follows.holds-at-none.0
