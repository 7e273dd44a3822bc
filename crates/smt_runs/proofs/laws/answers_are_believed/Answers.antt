use Rattle.smt_runs.proofs.Believing.{answers_are_believed}
use Rattle.smt_runs.proofs.laws.answers_are_believed.Goals as goal

pub returns : goal.returns
returns g c = answers_are_believed (g.L.Link.allows c.args.link.now)
