use Rattle.std.proofs.lemmas.Result.{on_ok_weaker}
use Rattle.smt_solve.specs.Session.{session_link, state_by}
use Rattle.smt_pool.proofs.Dialogues.{all_unsent, more_taken, still_allowed}
use Rattle.smt_pool.proofs.dialogue.send_more.Goals as goal

pub returns-clause-sent : goal.returns-clause-sent
returns-clause-sent g c =
    on_ok_weaker c.send.result (λ s. more_taken (state_by g.L.Link.state c.args.session.now) (state_by g.L.Link.state c.send.new.session) c.args.lines.now s) c.send.ensures.exchanged

pub returns-clause-allowed : goal.returns-clause-allowed
returns-clause-allowed g c =
    let allows = g.L.Link.allows (session_link c.args.session.now) in
    on_ok_weaker c.send.result (λ s. still_allowed allows (state_by g.L.Link.state c.args.session.now) (state_by g.L.Link.state c.send.new.session) c.args.lines.now s) c.send.ensures.exchanged

pub returns-clause-unsent : goal.returns-clause-unsent
returns-clause-unsent g c checks rest a =
    all_unsent (state_by g.L.Link.state c.args.session.now) (state_by g.L.Link.state c.send.new.session) c.send.result a.spared c.send.ensures.refused
