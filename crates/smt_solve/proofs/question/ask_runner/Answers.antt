use Rattle.smt_script.specs.Bytes.{bytes_in}
use Rattle.smt_script.specs.CommandTexts.{check_sat_text}
use Rattle.smt_solve.specs.Question.{AsksRunner, Exchanges}
use Rattle.smt_solve.proofs.QuestionLemmas.{exits, runner_judged, runner_unread, reply_sent, spares_then, told_then}
use Rattle.smt_solve.proofs.question.ask_runner.Goals as goal

pub returns-in_err-line-clause-asks : goal.returns-in_err-line-clause-asks
returns-in_err-line-clause-asks g c =
    let a = g.L.Link.state c.args.link.now in
    let d = g.L.Link.state c.read_reply.new.link in
    exits (AsksRunner (g.L.Link.allows c.args.link.now) a d) _ _ c.from_residual-in_err-line.ensures.1
    (runner_unread bytes_in _ c.in_ok-send_command.ensures.sends.ok c.send_command.ensures.sends.spared c.send_command.ensures.sends.over c.in_err-line.ensures.reads)

pub returns-clause-asks : goal.returns-clause-asks
returns-clause-asks g c =
    let a = g.L.Link.state c.args.link.now in
    let b = g.L.Link.state c.send_command.new.link in
    let sent : Exchanges a b check_sat_text _ = c.in_ok-send_command.ensures.sends.ok in
    let reply = reply_sent c.send_command.ensures.allows.back sent c.in_ok-line.ensures.reads.ok in
    runner_judged (g.L.Link.allows c.args.link.now) c.judge_decision.result (rw (← c.items.ensures) at reply) (spares_then c.send_command.ensures.sends.spared c.read_reply.ensures.reads.spared)
    (told_then a b (g.L.Link.state c.read_reply.new.link) c.send_command.ensures.sends.told c.read_reply.ensures.reads.told) c.items.ensures
    (λ o. c.in_ok-line.ensures.reads.over (c.in_ok-send_command.ensures.sends.over o)) c.judge_decision.ensures.judges
