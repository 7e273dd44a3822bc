use Rattle.std.proofs.Common.{length, subst}
use Rattle.smt_sexpr.specs.Refusals.{IsRefused}
use Rattle.smt_sexpr.proofs.Excluded.{excluded, never_deeper, never_too_deep}
use Rattle.smt_sexpr.proofs.parse.parse_sexpr.Goals as goal

pub returns-in-Ok-clause-found : goal.returns-in-Ok-clause-found
returns-in-Ok-clause-found c = let r = c.in-Ok.ensures.found in record { reads = r.reads; held = r.held }

pub returns-in-Err-clause-refused : goal.returns-in-Err-clause-refused
returns-in-Err-clause-refused c = c.in-Err.ensures.refused

pub returns-in-Err-clause-not_too_deep : goal.returns-in-Err-clause-not_too_deep
returns-in-Err-clause-not_too_deep c = λ e. never_too_deep c.args.src.now (subst (λ f. IsRefused f (length c.args.src.now) c.args.src.now) e (returns-in-Err-clause-refused c))

pub returns-in-Err-clause-complete : goal.returns-in-Err-clause-complete
returns-in-Err-clause-complete c = λ e r.
    excluded c.in-Err.fault (length c.args.src.now) c.args.src.now e (returns-in-Err-clause-refused c)
    (record { reads = r.reads; held = r.held; shallow = never_deeper c.args.src.now e r.reads })
