-- What a run of the program stands on, and what it reads.
use Rattle.std.specs.Prelude.{ℕ, ◌≡◌, option_map, IfSome, List, [], Option}
use Rattle.smt_script.specs.Sink.{Rose}

-- What a run stands on at a moment: what the formula's source has left and how often it failed, how often the proof's source failed, and
-- what the sink holds and how often it failed.
pub record Around : Type 0 where
  pub left : Option (List ℕ)
  pub source_faults : ℕ
  pub proof_faults : ℕ
  pub held : Option (List ℕ)
  pub sink_faults : ℕ

-- what a run stands on, by what is said of its sources and its sink
abbrev pub around : {R P W : Type 0} → (R → Option (List ℕ)) → (R → ℕ) → (P → ℕ) → (W → Option (List ℕ)) → (W → ℕ) → R → P → W → Around
around remaining source_faults proof_faults contents sink_faults source proof out = record {
  left = remaining source;
  source_faults = source_faults source;
  proof_faults = proof_faults proof;
  held = contents out;
  sink_faults = sink_faults out;
}

-- the formula's source failed: its count of faults rose, or stands at its last value
abbrev pub SourceFailed : (before after : Around) → Type 0
SourceFailed before after = Rose before.source_faults after.source_faults

-- the proof's source failed
abbrev pub ProofFailed : (before after : Around) → Type 0
ProofFailed before after = Rose before.proof_faults after.proof_faults

-- the sink failed
abbrev pub SinkFailed : (before after : Around) → Type 0
SinkFailed before after = Rose before.sink_faults after.sink_faults

-- The source is read to its end, and what it had left, where it told that, is as said.
pub record Reads (P : List ℕ → Type 0) (remaining left : Option (List ℕ)) : Type 0 where
  pub holds : IfSome remaining P
  pub ended : left ≡ option_map (λ _. []) remaining
