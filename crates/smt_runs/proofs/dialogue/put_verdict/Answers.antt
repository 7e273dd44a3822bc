use Rattle.std.proofs.Common.{◌≡◌, ◌∙◌, ap, arith}
use Rattle.std.specs.Io.KnownBytes.{append_known}
use Rattle.smt_script.specs.Sink.{Rose}
use Rattle.smt_solve.specs.Session.{session_link}
use Rattle.smt_runs.specs.Asking.{verdict_line}
use Rattle.smt_runs.specs.Refusal.{check_refusal, sink_refusal}
use Rattle.smt_runs.specs.Speaking.{StopsSpeaking}
use Rattle.smt_runs.proofs.Verdicts.{by_refusal, fault_is, not_answered, not_put, part_put, put_whole, whole_part}
use Rattle.smt_runs.proofs.dialogue.put_verdict.Goals as goal

pub returns-in_err-decision-clause-refused : goal.returns-in_err-decision-clause-refused
returns-in_err-decision-clause-refused g c =
    let old = g.K.Link.state (session_link c.args.session.now) in
    let new = g.K.Link.state (session_link c.ask_behind.new.session) in
    let held = g.W.Sink.contents c.args.out.now in
    let failed = Rose (g.W.Sink.faults c.args.out.now) (g.W.Sink.faults c.args.out.now) in
    let allows = g.K.Link.allows (session_link c.args.session.now) in
    by_refusal (StopsSpeaking allows old new held held failed c.args.lines.now) c.from_residual.result (check_refusal c.in_err-decision.field-0.0) c.from_residual.ensures.1
    (not_answered allows old new held failed c.args.lines.now c.in_err-decision.ensures.first_part c.in_err-decision.field-0.0 c.in_err-decision.ensures.refused)

pub returns-in_err-put-clause-refused : goal.returns-in_err-put-clause-refused
returns-in_err-put-clause-refused g c =
    let old = g.K.Link.state (session_link c.args.session.now) in
    let new = g.K.Link.state (session_link c.ask_behind.new.session) in
    let held = g.W.Sink.contents c.args.out.now in
    let now = g.W.Sink.contents c.put.new.self in
    let before = g.W.Sink.faults c.args.out.now in
    let after = g.W.Sink.faults c.put.new.self in
    let allows = g.K.Link.allows (session_link c.args.session.now) in
    let d = c.in_ok-decision.decision in
    by_refusal (StopsSpeaking allows old new held now (Rose before after) c.args.lines.now) c.from_residual-in_err-put.result (sink_refusal c.in_err-put.field-0.0) c.from_residual-in_err-put.ensures.1
    (not_put old new allows c.args.lines.now d c.in_ok-decision.ensures.answered held now before after c.in_err-put.field-0.0 (λ is. c.put.ensures.cause (fault_is c.put.result c.in_err-put.field-0.0 c.in_err-put.was is))
    (part_put held now (verdict_line d) c.as_bytes.result.now c.put.result c.in_err-put.field-0.0 c.in_err-put.was (c.as_bytes.ensures.value ∙ c.line_of.ensures) c.put.ensures.err))

pub returns-in_err-flush-clause-refused : goal.returns-in_err-flush-clause-refused
returns-in_err-flush-clause-refused g c =
    let old = g.K.Link.state (session_link c.args.session.now) in
    let new = g.K.Link.state (session_link c.ask_behind.new.session) in
    let held = g.W.Sink.contents c.args.out.now in
    let now = g.W.Sink.contents c.flush.new.self in
    let before = g.W.Sink.faults c.args.out.now in
    let after = g.W.Sink.faults c.flush.new.self in
    let allows = g.K.Link.allows (session_link c.args.session.now) in
    let d = c.in_ok-decision.decision in
    let put : now ≡ append_known held (verdict_line d) = c.flush.ensures.same_contents ∙ c.in_ok-put.ensures.ok ∙ ap (append_known held) (c.as_bytes.ensures.value ∙ c.line_of.ensures) in
    by_refusal (StopsSpeaking allows old new held now (Rose before after) c.args.lines.now) c.from_residual-in_err-flush.result (sink_refusal c.in_err-flush.field-0.0) c.from_residual-in_err-flush.ensures.1
    (not_put old new allows c.args.lines.now d c.in_ok-decision.ensures.answered held now before after c.in_err-flush.field-0.0
    (λ is. (let rose = c.flush.ensures.cause (fault_is c.flush.result c.in_err-flush.field-0.0 c.in_err-flush.was is) in let later = c.put.ensures.later in omega (arith, rose, later)))
    (whole_part held now (verdict_line d) put))

pub returns-clause-asked : goal.returns-clause-asked
returns-clause-asked g c =
    let old = g.K.Link.state (session_link c.args.session.now) in
    let new = g.K.Link.state (session_link c.ask_behind.new.session) in
    let held = g.W.Sink.contents c.args.out.now in
    let now = g.W.Sink.contents c.flush.new.self in
    let allows = g.K.Link.allows (session_link c.args.session.now) in
    let d = c.in_ok-decision.decision in
    put_whole old new allows c.args.lines.now d c.in_ok-decision.ensures.answered held now (c.flush.ensures.same_contents ∙ c.in_ok-put.ensures.ok ∙ ap (append_known held) (c.as_bytes.ensures.value ∙ c.line_of.ensures))
