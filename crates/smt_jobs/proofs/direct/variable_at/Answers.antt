use Rattle.smt_jobs.proofs.DirectReads.{variable_there}
use Rattle.smt_jobs.proofs.direct.variable_at.Goals as goal

pub returns-clause-read : goal.returns-clause-read
returns-clause-read c =
    variable_there c.args.declared.now c.variable_number.new.nodes c.in_ok-number.number c.args.src.now c.in-Some.rest.now c.in-Some-behind_close.rest.now c.in-Some.id.now c.in-Some.ensures.found c.in-Some.ensures.characters c.in-Some.ensures.encoded c.in-Some-behind_close.ensures.found _ _ c.in_ok-number.ensures.number c.in-Some-find.ensures.found c.in-Some-find.ensures.id
