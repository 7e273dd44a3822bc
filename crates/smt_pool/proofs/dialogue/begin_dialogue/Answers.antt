use Rattle.std.proofs.lemmas.Result.{on_ok_weaker}
use Rattle.smt_solve.specs.Session.{state_by}
use Rattle.smt_pool.proofs.Dialogues.{all_unsent, dialogue_begun}
use Rattle.smt_pool.proofs.dialogue.begin_dialogue.Goals as goal

pub returns-clause-begun : goal.returns-clause-begun
returns-clause-begun g c =
    on_ok_weaker c.send.result (λ s. dialogue_begun (state_by g.L.Link.state c.args.session.now) (state_by g.L.Link.state c.send.new.session) c.requires.unused s) c.send.ensures.exchanged

pub returns-clause-allowed : goal.returns-clause-allowed
returns-clause-allowed g c = on_ok_weaker c.send.result (λ s k m. tt) c.send.ensures.exchanged

pub returns-clause-unsent : goal.returns-clause-unsent
returns-clause-unsent g c =
    all_unsent (state_by g.L.Link.state c.args.session.now) (state_by g.L.Link.state c.send.new.session) c.send.result c.requires.unused.killed c.send.ensures.refused
