use Rattle.std.proofs.Common.{sym}
use Rattle.smt_jobs.proofs.Looking.{no_negation, not_negated}
use Rattle.smt_jobs.proofs.look.negates.Goals as goal

pub returns-then-not-is_negation-clause-none : goal.returns-then-not-is_negation-clause-none
returns-then-not-is_negation-clause-none c t u h k l = no_negation t u (sym (c.if-not-is_negation.ensures u k))

pub returns-in-len2-clause-none : goal.returns-in-len2-clause-none
returns-in-len2-clause-none c = not_negated c.args.nodes.now c.args.a c.args.b c.parts.result.now _ c.eq.result c.in-len2.len_at_least c.eq.ensures c.parts.ensures.found
