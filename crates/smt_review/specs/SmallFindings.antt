-- What a finding by a small solver in memory is worth: there is nothing that it rests on but proofs.
use Rattle.std.specs.Prelude.{ℕ, ◌≡◌, List}
use Rattle.smt_solve.specs.Starter.{Command as SolverCall, StarterState}
use Rattle.smt_stream.specs.Links.{mini_allows, mini_state}
use Rattle.smt_stream.specs.Starters.{mini_starter_allows}
use Rattle.smt_stream.specs.declared.link.MiniLink.{MiniLink}
use Rattle.smt_stream.specs.declared.starter.MiniStarter.{MiniStarter}
use Rattle.smt_runs.specs.Runs.{Around}
use Rattle.smt_review.specs.Differences.{AreRelated}
use Rattle.smt_review.specs.Run.{ReviewsPair}
use Rattle.smt_review.specs.declared.finding.Finding.TheVariants.{Holds}
use Rattle.smt_review.specs.declared.relation.Relation.{Relation}

-- Where a run over small solvers found that a relation holds of the two terms of a job, it holds of them, with no premise.
abbrev pub SmallFindingsAreBelieved : Type 0
SmallFindingsAreBelieved =
    (starter : MiniStarter) (call : SolverCall) (relation : Relation) (before after : Around (StarterState MiniLink)) (bytes : List ℕ)
    (d : ReviewsPair mini_state mini_allows (mini_starter_allows starter) call relation before after bytes)
    → d.finding ≡ Holds → AreRelated d.pair.job.enums relation d.pair.first d.pair.second
