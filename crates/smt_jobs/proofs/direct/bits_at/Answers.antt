use Rattle.std.proofs.Common.{sym}
use Rattle.smt_jobs.proofs.DirectReads.{bits_there}
use Rattle.smt_jobs.proofs.direct.bits_at.Goals as goal

pub returns-in_ok-intern-in-Some-literal_of-clause-read : goal.returns-in_ok-intern-in-Some-literal_of-clause-read
returns-in_ok-intern-in-Some-literal_of-clause-read c =
    bits_there c.args.declared.now c.intern.new.self c.in_ok-intern-in-Some-literal_of.field-0 c.args.src.now c.in-Some.rest.now c.in-Some-number_at.rest.now c.in-Some-behind_close.rest.now c.in-Some.width c.in-Some-number_at.number c.in-Some.ensures.found c.in-Some-number_at.ensures.found c.in-Some-behind_close.ensures.found _ (sym c.in-Some-literal_of.ensures) c.in_ok-intern-in-Some-literal_of.ensures.meaning
