use Rattle.std.proofs.Common.{◌∙◌}
use Rattle.std.proofs.lemmas.Iterator.{YieldsList-from_slice, YieldsList-from_zip}
use Rattle.std.proofs.lemmas.Iterator.Consumers.{YieldsList-end}
use Rattle.smt_job_terms.proofs.TermsRead.{zip_seen}
use Rattle.smt_job_terms.proofs.term.fields_from.Goals as goal

pub returns-clause-fields : goal.returns-clause-fields
returns-clause-fields c =
    let t = YieldsList-end {s = c.into_iter-name-iterator.result} (YieldsList-from_zip (YieldsList-from_slice c.args.names.now cc) (YieldsList-from_slice c.args.operands.now cc)) c.loop-name.yielded c.loop-name.name-iterator c.loop-name.yielded_by c.next.result c.next.new.self c.in-None.is c.next.ensures.steps in
    c.loop-name.invariant ∙ zip_seen c.loop-name.yielded c.args.names.now c.args.operands.now t.0
