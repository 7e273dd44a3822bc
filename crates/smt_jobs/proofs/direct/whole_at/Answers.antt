use Rattle.smt_sexpr.specs.View.{plain}
use Rattle.smt_term.specs.View.{plain_term}
use Rattle.smt_jobs.proofs.DirectReads.{whole_there}
use Rattle.smt_jobs.proofs.direct.whole_at.Goals as goal

pub returns-in-Ok-term_from-clause-read : goal.returns-in-Ok-term_from-clause-read
returns-in-Ok-term_from-clause-read c =
    whole_there c.args.declared.now c.intern.new.self c.in_ok-intern-in-Ok-term_from.field-0 (plain c.in-Ok.expression) c.args.src.now c.in-Ok.rest.now c.args.depth (plain_term c.in-Ok-term_from.term) c.in-Ok.ensures.found c.in-Ok.ensures.shallow c.in_ok-intern-in-Ok-term_from.ensures.meaning c.in-Ok-term_from.ensures
