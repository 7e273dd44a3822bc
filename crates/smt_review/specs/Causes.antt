-- Why a run is refused, besides what failed of the source and the sink.
use Rattle.std.specs.Prelude.{ℕ, ◌≡◌, ⊤, IfSome, List}
use Rattle.law_folding.specs.Built.{built}
use Rattle.smt_solve.specs.Link.{LinkState}
use Rattle.smt_solve.specs.Starter.{Command as SolverCall, StarterState}
use Rattle.smt_runs.specs.Jobs.{IsRefusedAs}
use Rattle.smt_runs.specs.Runs.{Around, StartFailed}
use Rattle.smt_runs.specs.declared.refusal.Refusal.{Refusal}
use Rattle.smt_runs.specs.declared.refusal.Refusal.TheVariants.{Job, NotTwo, Encode, Source, Sink, Start, Session, Memory}
use Rattle.smt_review.specs.Once.{WhyNotReviewedOnce}
use Rattle.smt_review.specs.Pairs.{IsNoPair, IsPair}
use Rattle.smt_review.specs.declared.command.Command.{Command}
use Rattle.smt_review.specs.declared.command.Command.TheVariants.{Review}
use Rattle.smt_review.specs.declared.relation.Relation.{Relation}

module _ {L : Type 0} (state : L → LinkState) where
  -- A job of two terms has these bytes, and this is why nothing was found of them, as they are built.
  abbrev pub IsStopped : SolverCall → Relation → (before after : Around (StarterState L)) → Refusal → List ℕ → Type 0
  IsStopped call relation before after refusal bytes =
      (p : IsPair bytes)
      × WhyNotReviewedOnce state before.beside after.beside call p.job.enums relation (built p.first) (built p.second) refusal

  -- Why a review was refused. Where the source or the job was, no solver was started. The sink holds what it held, unless it failed or
  -- there was no memory.
  abbrev pub WhyNotReviewed : SolverCall → Relation → (before after : Around (StarterState L)) → Refusal → Type 0
  WhyNotReviewed call relation before after (Job kind) =
      IfSome before.left (IsRefusedAs kind) × (after.beside ≡ before.beside) × (after.held ≡ before.held)
  WhyNotReviewed call relation before after NotTwo =
      IfSome before.left IsNoPair × (after.beside ≡ before.beside) × (after.held ≡ before.held)
  WhyNotReviewed call relation before after (Encode kind) =
      IfSome before.left (IsStopped call relation before after (Encode kind)) × (after.held ≡ before.held)
  WhyNotReviewed call relation before after Source = (after.beside ≡ before.beside) × (after.held ≡ before.held)
  WhyNotReviewed call relation before after Sink = IfSome before.left IsPair
  WhyNotReviewed call relation before after Start =
      StartFailed before.beside after.beside × IfSome before.left IsPair × (after.held ≡ before.held)
  WhyNotReviewed call relation before after (Session kind) =
      IfSome before.left (IsStopped call relation before after (Session kind)) × (after.held ≡ before.held)
  WhyNotReviewed call relation before after Memory = ⊤
  WhyNotReviewed call relation before after refusal = ⊥

  -- why what was asked for was refused
  abbrev pub WhyNotDone : SolverCall → Command → (before after : Around (StarterState L)) → Refusal → Type 0
  WhyNotDone call (Review relation) before after refusal = WhyNotReviewed call relation before after refusal
