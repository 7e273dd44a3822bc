use Rattle.smt_solve.specs.Session.{session_link}
use Rattle.smt_solve.specs.Starter.{command_of}
use Rattle.smt_pool.proofs.Asking.{unchecked}
use Rattle.smt_pool.proofs.check.check_script.Goals as goal

pub returns-in-Ok-finish-clause-refused : goal.returns-in-Ok-finish-clause-refused
returns-in-Ok-finish-clause-refused g c =
    unchecked g.P.L.Link.state (g.P.Starter.state c.args.starter.now) (g.P.Starter.state c.from_command.new.starter) (g.P.Starter.state c.finish.new.self) (command_of c.args.solver.now) c.args.script.now
    (session_link c.decide-answer.new.session) c.into_link.result c.in-Ok.session c.decide-answer.result c.into_link.ensures c.in-Ok.ensures.starts c.in-Ok-finish.ensures.finishes c.decide-answer.ensures.refused
