use Rattle.smt_solve.specs.Model.{AsksWithModel}
use Rattle.smt_solve.proofs.ModelLemmas.{undecided, is_unsat, is_unknown, has_model, has_no_model}
use Rattle.smt_solve.proofs.QuestionLemmas.{exits}
use Rattle.smt_solve.proofs.model.ask_with_model.Goals as goal

pub returns-in_err-ask_decision-clause-asks : goal.returns-in_err-ask_decision-clause-asks
returns-in_err-ask_decision-clause-asks g c =
    let allows = g.L.Link.allows c.args.link.now in
    exits (AsksWithModel allows (g.L.Link.state c.args.link.now) (g.L.Link.state c.ask_decision.new.link)) _ _ c.from_residual.ensures.1
    (undecided allows _ c.in_err-ask_decision.ensures.asks)

pub returns-in-Ok-clause-asks : goal.returns-in-Ok-clause-asks
returns-in-Ok-clause-asks g c = has_model (g.L.Link.allows c.args.link.now) _ _ c.in-Sat.is c.in_ok-ask_decision.ensures.asks c.ask_decision.ensures.allows.back c.in-Ok.ensures.asks

pub returns-in-Err-clause-asks : goal.returns-in-Err-clause-asks
returns-in-Err-clause-asks g c = has_no_model (g.L.Link.allows c.args.link.now) _ _ c.in-Sat.is c.in_ok-ask_decision.ensures.asks c.in-Err.ensures.asks

pub returns-in-Unsat-clause-asks : goal.returns-in-Unsat-clause-asks
returns-in-Unsat-clause-asks g c = is_unsat (g.L.Link.allows c.args.link.now) _ c.in-Unsat.is c.in_ok-ask_decision.ensures.asks

pub returns-in-Unknown-clause-asks : goal.returns-in-Unknown-clause-asks
returns-in-Unknown-clause-asks g c = is_unknown (g.L.Link.allows c.args.link.now) _ c.in-Unknown.is c.in_ok-ask_decision.ensures.asks
