use Rattle.smt_sexpr.proofs.Excluded.{excluded}
use Rattle.smt_sexpr.proofs.parse.parse_sexpr_within.Goals as goal

pub returns-in-Err-clause-complete : goal.returns-in-Err-clause-complete
returns-in-Err-clause-complete c = λ e r. excluded c.in-Err.fault c.args.max_depth c.args.src.now e c.in-Err.ensures.refused r
