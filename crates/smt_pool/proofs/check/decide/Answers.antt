use Rattle.std.proofs.Common.{[], sym, subst}
use Rattle.smt_solve.specs.Session.{session_link, state_by}
use Rattle.law_verdicts.specs.Verdicts.{logic_text, question_of}
use Rattle.smt_pool.specs.Checks.{WhyUndecided}
use Rattle.smt_pool.specs.declared.check_error.CheckError.{CheckError}
use Rattle.smt_pool.proofs.Asking.{answered, answered_by, cannot_ask, exits, fresh_ready, not_answered, only_then}
use Rattle.smt_pool.proofs.check.decide.Goals as goal

pub returns-in-Ok-clause-decided : goal.returns-in-Ok-clause-decided
returns-in-Ok-clause-decided g c =
    let before = state_by g.L.Link.state c.send-2.new.session in
    let after = state_by g.L.Link.state c.check_sat.new.self in
    let first = g.L.Link.allows (session_link c.args.session.now) in
    let middle = g.L.Link.allows (session_link c.send.new.session) in
    let last = g.L.Link.allows (session_link c.send-2.new.session) in
    let ready = c.in_ok-send-2.ensures.sent logic_text (c.in_ok-send.ensures.sent [] (fresh_ready (state_by g.L.Link.state c.args.session.now) c.requires.unused)) in
    answered_by last first after (question_of c.args.script.now) c.in-Ok.decision (only_then last middle first c.send-2.ensures.allows.back c.send.ensures.allows.back)
    (answered last before after c.args.script.now c.in-Ok.decision ready (c.in-Ok.ensures.asks c.in_ok-send-2.ensures.unfailed).ok)

pub returns-in-Err-clause-refused : goal.returns-in-Err-clause-refused
returns-in-Err-clause-refused g c =
    let before = state_by g.L.Link.state c.send-2.new.session in
    let after = state_by g.L.Link.state c.check_sat.new.self in
    let ready = c.in_ok-send-2.ensures.sent logic_text (c.in_ok-send.ensures.sent [] (fresh_ready (state_by g.L.Link.state c.args.session.now) c.requires.unused)) in
    subst (λ (e : CheckError). WhyUndecided after c.args.script.now e) (sym c.error_of.ensures) (not_answered (g.L.Link.allows (session_link c.send-2.new.session)) before after c.args.script.now c.in-Err.error ready (c.in-Err.ensures.asks c.in_ok-send-2.ensures.unfailed))

pub returns-in_err-send-2-clause-refused : goal.returns-in_err-send-2-clause-refused
returns-in_err-send-2-clause-refused g c =
    let before = state_by g.L.Link.state c.send.new.session in
    let after = state_by g.L.Link.state c.send-2.new.session in
    let ready = c.in_ok-send.ensures.sent [] (fresh_ready (state_by g.L.Link.state c.args.session.now) c.requires.unused) in
    exits after c.args.script.now c.from_residual-in_err-send-2.result c.in_err-send-2.field-0.0 c.from_residual-in_err-send-2.ensures.1
    (cannot_ask before after c.args.script.now c.in_err-send-2.field-0.0 ready.spared c.in_err-send-2.ensures.refused)
