use Rattle.smt_term.specs.Enums.{enums_of}
use Rattle.smt_term.specs.View.{plain_term}
use Rattle.smt_solve.specs.Session.{session_link, state_by}
use Rattle.smt_review.proofs.Asking.{answered_as, exits, same_then, unanswered_as}
use Rattle.smt_review.specs.Reviews.{text_for}
use Rattle.smt_review.proofs.question.ask_session.Goals as goal

pub returns-clause-answered : goal.returns-clause-answered
returns-clause-answered g c =
    let state = state_by g.L.Link.state in
    let first = g.L.Link.allows (session_link c.args.session.now) in
    let middle = g.L.Link.allows (session_link c.send_lines.new.self) in
    let last = g.L.Link.allows (session_link c.send_lines-2.new.self) in
    answered_as first last (state c.args.session.now) (state c.send_lines.new.self) (state c.send_lines-2.new.self) (state c.check_sat.new.self)
    c.bytes.result.now _ (text_for (enums_of c.args.enums.now) c.args.relation (plain_term c.args.a) (plain_term c.args.b)) c.in_ok-check_sat.field-0 _
    (same_then first middle last c.send_lines.ensures.guards.same_allows c.send_lines-2.ensures.guards.same_allows).back c.bytes.ensures c.in-Ok.ensures.text c.by.ensures
    (c.in_ok-send_lines.ensures.sends c.requires.unfailed) (c.in_ok-send_lines-2.ensures.sends c.in_ok-send_lines.ensures.guards.failed) (c.in_ok-check_sat.ensures.asks c.in_ok-send_lines-2.ensures.guards.failed)

pub returns-in_err-check_sat-clause-refused : goal.returns-in_err-check_sat-clause-refused
returns-in_err-check_sat-clause-refused g c =
    let state = state_by g.L.Link.state in
    let enums = enums_of c.args.enums.now in
    let t = plain_term c.args.a in
    let u = plain_term c.args.b in
    exits enums c.args.relation t u (state c.args.session.now) (state c.check_sat.new.self) c.from_residual-in_err-check_sat.result _ c.from_residual-in_err-check_sat.ensures.1
    (unanswered_as enums c.args.relation t u (g.L.Link.allows (session_link c.send_lines-2.new.self)) (state c.args.session.now) (state c.send_lines.new.self) (state c.send_lines-2.new.self) (state c.check_sat.new.self)
    c.bytes.result.now _ c.in_err-check_sat.field-0.0 c.bytes.ensures c.in-Ok.ensures.text (c.in_ok-send_lines.ensures.sends c.requires.unfailed)
    (c.in_ok-send_lines-2.ensures.sends c.in_ok-send_lines.ensures.guards.failed) (c.in_err-check_sat.ensures.asks c.in_ok-send_lines-2.ensures.guards.failed))
