use Rattle.std.proofs.Common.{List, ℕ, Ok, subst}
use Rattle.smt_solve.specs.Question.{SendsCommand}
use Rattle.smt_solve.specs.Session.{session_failed, session_link, state_by}
use Rattle.smt_pool.proofs.InHand.{believed, had_not_failed, unanswered}
use Rattle.smt_pool.proofs.ask.ask_script.Goals as goal

pub returns-clause-refused : goal.returns-clause-refused
returns-clause-refused g c =
    let state = state_by g.L.Link.state in
    let allows = g.L.Link.allows in
    let free = had_not_failed allows c.args.session.now c.send_lines.new.self c.in_ok-send_lines.field-0 c.in_ok-send_lines.ensures.guards in
    unanswered (allows (session_link c.args.session.now)) (allows (session_link c.send_lines.new.self)) (allows (session_link c.send_lines-2.new.self))
    (state c.args.session.now) (state c.send_lines.new.self) (state c.send_lines-2.new.self) (state c.check_sat.new.self) c.args.script.now (session_failed c.args.session.now) c.check_sat.result free
    (c.in_ok-send_lines.ensures.sends free) (c.in_ok-send_lines-2.ensures.sends c.in_ok-send_lines.ensures.guards.failed) (c.check_sat.ensures.asks c.in_ok-send_lines-2.ensures.guards.failed)

pub returns-clause-believed : goal.returns-clause-believed
returns-clause-believed g c enums ts good k same honest blank =
    let state = state_by g.L.Link.state in
    let allows = g.L.Link.allows in
    let free = had_not_failed allows c.args.session.now c.send_lines.new.self c.in_ok-send_lines.field-0 c.in_ok-send_lines.ensures.guards in
    believed (allows (session_link c.args.session.now)) (allows (session_link c.send_lines.new.self)) (allows (session_link c.send_lines-2.new.self))
    (state c.args.session.now) (state c.send_lines.new.self) (state c.send_lines-2.new.self) (state c.check_sat.new.self) enums ts good k
    c.in_ok-send_lines.ensures.guards.same_allows c.in_ok-send_lines-2.ensures.guards.same_allows c.check_sat.result honest blank
    (c.in_ok-send_lines.ensures.sends free)
    (subst (λ (bytes : List ℕ). SendsCommand {T = Unit {0}} (state c.send_lines.new.self) (state c.send_lines-2.new.self) bytes (Ok c.in_ok-send_lines-2.field-0)) same (c.in_ok-send_lines-2.ensures.sends c.in_ok-send_lines.ensures.guards.failed))
    (c.check_sat.ensures.asks c.in_ok-send_lines-2.ensures.guards.failed)
