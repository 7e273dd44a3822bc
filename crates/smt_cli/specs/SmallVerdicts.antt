-- What verdicts of small solvers in memory are worth: there is nothing that they rest on but proofs.
use Rattle.std.specs.Prelude.{ℕ, List}
use Rattle.smt_solve.specs.Starter.{Command as SolverCall, StarterState}
use Rattle.smt_runs.specs.Asked.{AreBelieved}
use Rattle.smt_stream.specs.Links.{mini_state}
use Rattle.smt_stream.specs.Starters.{mini_starter_allows}
use Rattle.smt_stream.specs.declared.link.MiniLink.{MiniLink}
use Rattle.smt_stream.specs.declared.starter.MiniStarter.{MiniStarter}
use Rattle.smt_runs.specs.Runs.{Around}
use Rattle.smt_cli.specs.Run.{Checks, steps_to_check}

-- Where a job was checked by a small solver, its verdicts are believed, with no premise.
abbrev pub SmallVerdictsAreBelieved : Type 0
SmallVerdictsAreBelieved =
    (starter : MiniStarter) (call : SolverCall) (before after : Around (StarterState MiniLink)) (bytes : List ℕ)
    (c : Checks mini_state (mini_starter_allows starter) call before after bytes)
    → AreBelieved c.job.enums (steps_to_check bytes c.job c.is_job) c.asks.checks
