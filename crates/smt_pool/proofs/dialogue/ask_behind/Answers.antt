use Rattle.std.proofs.Common.{sym, subst}
use Rattle.smt_script.specs.CommandTexts.{check_sat_text}
use Rattle.smt_solve.specs.Session.{session_link, state_by}
use Rattle.smt_pool.specs.Dialogue.{RefusesNext}
use Rattle.smt_pool.specs.declared.check_error.CheckError.{CheckError}
use Rattle.smt_pool.proofs.Dialogues.{answers_next, begun_behind, begun_longer, exits_next, refuses_next, unsent_next}
use Rattle.smt_pool.proofs.dialogue.ask_behind.Goals as goal

pub returns-in-Ok-clause-answered : goal.returns-in-Ok-clause-answered
returns-in-Ok-clause-answered g c =
    let state = state_by g.L.Link.state in
    answers_next (g.L.Link.allows (session_link c.args.session.now)) (g.L.Link.allows (session_link c.send.new.session)) (state c.args.session.now) (state c.send.new.session) (state c.check_sat.new.self)
    c.args.lines.now c.in-Ok.decision c.in_ok-send.ensures.allows.back c.in_ok-send.ensures.exchanged (c.in-Ok.ensures.asks c.in_ok-send.ensures.unfailed)

pub returns-in-Err-clause-refused : goal.returns-in-Err-clause-refused
returns-in-Err-clause-refused g c =
    let state = state_by g.L.Link.state in
    subst (λ (e : CheckError). RefusesNext (state c.args.session.now) (state c.check_sat.new.self) c.args.lines.now e) (sym c.error_of.ensures)
    (refuses_next (g.L.Link.allows (session_link c.send.new.session)) (state c.args.session.now) (state c.send.new.session) (state c.check_sat.new.self) c.args.lines.now c.in-Err.error c.in_ok-send.ensures.exchanged
    (c.in-Err.ensures.asks c.in_ok-send.ensures.unfailed))

pub returns-in_err-send-clause-refused : goal.returns-in_err-send-clause-refused
returns-in_err-send-clause-refused g c =
    let state = state_by g.L.Link.state in
    exits_next (state c.args.session.now) (state c.send.new.session) c.args.lines.now c.from_residual.result c.in_err-send.field-0.0 c.from_residual.ensures.1
    (unsent_next (state c.args.session.now) (state c.send.new.session) c.args.lines.now c.in_err-send.field-0.0 c.in_err-send.ensures.refused)

pub returns-in-Ok-clause-first_part : goal.returns-in-Ok-clause-first_part
returns-in-Ok-clause-first_part g c =
    let state = state_by g.L.Link.state in
    begun_behind (state c.args.session.now) (state c.send.new.session) (state c.check_sat.new.self) c.args.lines.now check_sat_text c.in_ok-send.ensures.exchanged.ok (c.in-Ok.ensures.asks c.in_ok-send.ensures.unfailed).begun

pub returns-in-Err-clause-first_part : goal.returns-in-Err-clause-first_part
returns-in-Err-clause-first_part g c =
    let state = state_by g.L.Link.state in
    begun_behind (state c.args.session.now) (state c.send.new.session) (state c.check_sat.new.self) c.args.lines.now check_sat_text c.in_ok-send.ensures.exchanged.ok (c.in-Err.ensures.asks c.in_ok-send.ensures.unfailed).begun

pub returns-in_err-send-clause-first_part : goal.returns-in_err-send-clause-first_part
returns-in_err-send-clause-first_part g c =
    let state = state_by g.L.Link.state in
    begun_longer (state c.args.session.now) (state c.send.new.session) c.args.lines.now check_sat_text c.in_err-send.ensures.first_part
