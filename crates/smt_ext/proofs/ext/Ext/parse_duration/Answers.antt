use Rattle.smt_ext.proofs.ext.Ext.parse_duration.Goals as goal

pub returns-in_err-parse-clause-accepts : goal.returns-in_err-parse-clause-accepts
returns-in_err-parse-clause-accepts c v written = absurd (c.in_err-parse.ensures.accepts v written)
