-- Why a run is refused.
use Rattle.std.specs.Prelude.{ℕ, ◌≡◌, ◌<◌, ◌⊎◌, ⊤, length, IfSome, List, Option, Some, None}
use Rattle.smt_dimacs.specs.Faults.{IsFaultAt}
use Rattle.smt_dimacs.specs.Formulas.{greatest}
use Rattle.smt_sat_run.specs.Around.{Around, ProofFailed, SinkFailed, SourceFailed}
use Rattle.smt_sat_run.specs.declared.command.Command.{Command}
use Rattle.smt_sat_run.specs.declared.command.Command.TheVariants.{Search, Check, Help, Version}
use Rattle.smt_sat_run.specs.declared.refusal.Refusal.{Refusal}
use Rattle.smt_sat_run.specs.declared.refusal.Refusal.TheVariants.{Usage, Formula, TooLarge, Source, Sink, Memory}

-- ---- causes: `failed` is the fact that a count of faults rose

-- why no formula was read of a source that had this left
abbrev pub HasReadCause : (left : Option (List ℕ)) → (failed : Type 0) → Refusal → Type 0
HasReadCause left failed (Formula fault line) = IfSome left (λ bytes. IsFaultAt bytes fault line)
HasReadCause left failed TooLarge = IfSome left (λ bytes. greatest < length bytes)
HasReadCause left failed Source = failed
HasReadCause left failed Memory = ⊤
HasReadCause left failed refusal = ⊥

-- why a proof was not gone through
abbrev pub HasProofCause : (failed : Type 0) → Refusal → Type 0
HasProofCause failed Source = failed
HasProofCause failed Memory = ⊤
HasProofCause failed refusal = ⊥

-- why a text was not put
abbrev pub HasPutCause : (failed : Type 0) → Refusal → Type 0
HasPutCause failed Sink = failed
HasPutCause failed Memory = ⊤
HasPutCause failed refusal = ⊥

-- why no verdict was put on the formula of a source that had this left: `failed` is the fact that a source failed that was to be read
abbrev pub HasAnswerCause : (failed sink_failed : Type 0) → (left : Option (List ℕ)) → Refusal → Type 0
HasAnswerCause failed sink_failed left Usage = ⊥
HasAnswerCause failed sink_failed left (Formula fault line) = IfSome left (λ bytes. IsFaultAt bytes fault line)
HasAnswerCause failed sink_failed left TooLarge = IfSome left (λ bytes. greatest < length bytes)
HasAnswerCause failed sink_failed left Source = failed
HasAnswerCause failed sink_failed left Sink = sink_failed
HasAnswerCause failed sink_failed left Memory = ⊤

-- why what was asked for was refused
abbrev pub HasCause : (before after : Around) → Option Command → Refusal → Type 0
HasCause before after (Some (Search most)) refusal =
    HasAnswerCause (SourceFailed before after) (SinkFailed before after) before.left refusal
HasCause before after (Some Check) refusal =
    HasAnswerCause (SourceFailed before after ⊎ ProofFailed before after) (SinkFailed before after) before.left refusal
HasCause before after (Some Help) refusal = HasPutCause (SinkFailed before after) refusal
HasCause before after (Some Version) refusal = HasPutCause (SinkFailed before after) refusal
HasCause before after None refusal = refusal ≡ Usage

-- What a sink holds behind a refusal: what it held, where the words, a source or the formula were refused.
abbrev pub LeavesOutput : (old new : Option (List ℕ)) → Refusal → Type 0
LeavesOutput old new Sink = ⊤
LeavesOutput old new Memory = ⊤
LeavesOutput old new refusal = new ≡ old
