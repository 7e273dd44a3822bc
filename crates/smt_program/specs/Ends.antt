-- How a run ends: what it says, and with which status.
use Rattle.std.specs.Prelude.{ℕ, ◌≡◌, ◌⊎◌, Err, List, Ok, Option, Result}
use Rattle.std.specs.Io.KnownBytes.{append_known}
use Rattle.smt_script.specs.Sink.{Puts}
use Rattle.smt_script.specs.declared.sink.SinkError.{SinkError}
use Rattle.smt_script.specs.declared.sink.SinkError.TheVariants.{Fault}

-- Some text is appended to what is held.
pub record AppendsText (old new : Option (List ℕ)) : Type 0 where
  pub text : List ℕ
  pub appended : new ≡ append_known old text

-- Something is said on a sink: the line was put, as far as that went.
pub record SaysLine {S : Type 0} (contents : S → Option (List ℕ)) (faults : S → ℕ) (has_room : S → ℕ → Type 0) (place : S → List ℕ)
    (old new : S) (line : List ℕ) : Type 0 where
  pub outcome : Result (Unit {0}) SinkError
  pub put : Puts contents faults has_room place old new line outcome

-- A run ends with the status of a refusal, whose line is said.
pub record EndsRefused {E : Type 0} (status_gives : E → ℕ) (line_gives : E → List ℕ) (Said : List ℕ → Type 0) (Why : E → Type 0)
    (status : ℕ) : Type 0 where
  pub refusal : E
  pub why : Why refusal
  pub status_is : status ≡ status_gives refusal
  pub said : Said (line_gives refusal)

-- A refusal is one of a sink that failed as said, or had no memory.
abbrev pub IsUnput : {E : Type 0} → (SinkError → E → Type 0) → (failed : Type 0) → E → Type 0
IsUnput from_gives failed refusal = (error : SinkError) × from_gives error refusal × (error ≡ Fault → failed)

-- How a run ends of which this came, where `failed` is the fact that the sink's count of faults rose in the flush. With a status of its own
-- nothing is said, unless the flush fails. A refusal is said, and so is that of the flush.
module _ {E : Type 0} (status_gives : E → ℕ) (line_gives : E → List ℕ) (from_gives : SinkError → E → Type 0) (failed quiet : Type 0)
    (Said : List ℕ → Type 0) where
  abbrev pub Ends : Result ℕ E → (status : ℕ) → Type 0
  Ends (Ok own) status =
      ((status ≡ own) × quiet) ⊎ EndsRefused status_gives line_gives Said (IsUnput from_gives failed) status
  Ends (Err refusal) status = EndsRefused status_gives line_gives Said (λ r. r ≡ refusal) status
