use Rattle.smt_pool.specs.Pool.{pool_starter, pool_state}
use Rattle.smt_review.proofs.Reviewing.{unused_sessions_are_idle}
use Rattle.smt_review.proofs.laws.opened_pools_may_be_asked.Goals as goal

pub returns : goal.returns
returns g c starter =
    unused_sessions_are_idle g.P.L.Link.state g.P.L.Link.allows (g.P.Starter.allows starter) (g.P.Starter.allows (pool_starter c.args.pool.now)) (pool_state g.P.Starter.state c.args.pool.now).idle
