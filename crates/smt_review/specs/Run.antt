-- What a run does, and what it says.
use Rattle.std.specs.Prelude.{ℕ, ◌≡◌, ◌⊎◌, codes, IfSome, List, Option, Some}
use Rattle.std.specs.Io.KnownBytes.{append_known}
use Rattle.law_folding.specs.Built.{built}
use Rattle.smt_solve.specs.Link.{LinkState}
use Rattle.smt_solve.specs.Starter.{Command as SolverCall, StarterState}
use Rattle.law_verdicts.specs.Honesty.{IsHonest}
use Rattle.law_verdicts.specs.Idle.{TellsAll}
use Rattle.smt_program.specs.declared.words.Asked.{Asked}
use Rattle.smt_program.specs.declared.words.Asked.TheVariants.{Own, Help, Version}
use Rattle.smt_runs.specs.Jobs.{IsNoJob}
use Rattle.smt_runs.specs.Runs.{Around, Reads}
use Rattle.smt_review.specs.Differences.{AreRelated}
use Rattle.smt_review.specs.Once.{ReviewsOnce}
use Rattle.smt_review.specs.Pairs.{IsFaultlessPair, IsFaultyPair, IsNoPair, IsPair}
use Rattle.smt_review.specs.declared.command.Command.{Command}
use Rattle.smt_review.specs.declared.command.Command.TheVariants.{Review}
use Rattle.smt_review.specs.declared.finding.Finding.{Finding}
use Rattle.smt_review.specs.declared.finding.Finding.TheVariants.{Holds, Fails, Unknown}
use Rattle.smt_review.specs.declared.relation.Relation.{Relation}

-- the word of a finding, with its line feed
abbrev pub finding_line : Finding → List ℕ
finding_line Holds = codes "holds\n"
finding_line Fails = codes "fails\n"
finding_line Unknown = codes "unknown\n"

-- ---- what is done: beside the source and the sink stands what a starter tells, whose links are of type `L`

module _ {L : Type 0} (state : L → LinkState) where
  -- The bytes are a job of two terms. A solver was started by the command and asked about the difference of the terms, as they are built;
  -- its link came back, and the word of what its one line says was put. Where the starter is honest and its links tell all, `holds` says
  -- that the relation holds of the terms, as they are written, in every interpretation of them.
  pub record ReviewsPair (allows : L → List ℕ → List ℕ → List ℕ → Type 0) (allowed : List ℕ → List ℕ → List ℕ → Type 0) (call : SolverCall)
      (relation : Relation) (before after : Around (StarterState L)) (bytes : List ℕ) : Type 0 where
    pub pair : IsPair bytes
    pub finding : Finding
    pub reviews :
        ReviewsOnce state allows allowed before.beside after.beside call pair.job.enums relation (built pair.first) (built pair.second)
        finding
    pub put : after.held ≡ append_known before.held (finding_line finding)
    pub believed : ((link : L) → TellsAll (state link)) → IsHonest allowed → finding ≡ Holds →
        AreRelated pair.job.enums relation pair.first pair.second

  -- what was asked for is done
  abbrev pub IsDone : (allows : L → List ℕ → List ℕ → List ℕ → Type 0) → (allowed : List ℕ → List ℕ → List ℕ → Type 0) → SolverCall →
      Command → (before after : Around (StarterState L)) → Type 0
  IsDone allows allowed call (Review relation) before after =
      Reads (ReviewsPair allows allowed call relation before after) before.left after.left

-- ---- what a status says

-- But for want of memory, and where nothing failed, a job of two terms is reviewed or its session fails; where their difference has a
-- fault it is refused by the encoder, or the session fails before; another job and what is no job are refused as such; and the text of
-- another word is put.
pub record IsComplete (asked : Option (Asked Command)) (left : Option (List ℕ)) (source_failed sink_failed start_failed : Type 0)
    (status : ℕ) : Type 0 where
  pub reviewed : (relation : Relation) → asked ≡ Some (Own (Review relation)) → ¬ source_failed → ¬ sink_failed → ¬ start_failed →
      IfSome left (λ bytes. IsFaultlessPair relation bytes → (status ≡ 0) ⊎ ((status ≡ 7) ⊎ (status ≡ 8)))
  pub unwritten : (relation : Relation) → asked ≡ Some (Own (Review relation)) → ¬ source_failed → ¬ sink_failed → ¬ start_failed →
      IfSome left (λ bytes. IsFaultyPair relation bytes → (status ≡ 4) ⊎ ((status ≡ 7) ⊎ (status ≡ 8)))
  pub not_two : (relation : Relation) → asked ≡ Some (Own (Review relation)) → ¬ source_failed →
      IfSome left (λ bytes. IsNoPair bytes → (status ≡ 3) ⊎ (status ≡ 7))
  pub rejected : (relation : Relation) → asked ≡ Some (Own (Review relation)) → ¬ source_failed →
      IfSome left (λ bytes. IsNoJob bytes → (status ≡ 3) ⊎ (status ≡ 7))
  pub printed : (asked ≡ Some Help) ⊎ (asked ≡ Some Version) → ¬ sink_failed → (status ≡ 0) ⊎ (status ≡ 7)
