-- What a run of a program that reads a job stands on, what it reads, and how it ends.
use Rattle.std.specs.Prelude.{ℕ, ◌≡◌, ◌⊎◌, ⊤, Bool, false, option_map, IfSome, List, [], Option, Some, None}
use Rattle.smt_program.specs.Ends.{AppendsText, EndsRefused}
use Rattle.smt_program.specs.Words.{asked}
use Rattle.smt_program.specs.declared.words.Asked.{Asked}
use Rattle.smt_program.specs.declared.words.Asked.TheVariants.{Own, Help, Version}
use Rattle.smt_script.specs.Sink.{Rose}
use Rattle.smt_solve.specs.Starter.{StarterState}
use Rattle.smt_runs.specs.Refusal.{line_of, status_of}
use Rattle.smt_runs.specs.declared.refusal.Refusal.{Refusal}
use Rattle.smt_runs.specs.declared.refusal.Refusal.TheVariants.{Source, Sink, Memory}

-- What a run stands on at a moment: what the source has left, what the sink holds, and what stands beside them.
pub record Around (P : Type 0) : Type 0 where
  pub left : Option (List ℕ)
  pub held : Option (List ℕ)
  pub beside : P

-- what a run stands on, by what is said of its source and its sink
abbrev pub around : {R W P : Type 0} → (R → Option (List ℕ)) → (W → Option (List ℕ)) → R → W → P → Around P
around remaining contents source out beside = record { left = remaining source; held = contents out; beside = beside }

-- what a run stands on, with what is told of what stands beside in the place of it
abbrev pub seen : {P Q : Type 0} → (tells : P → Q) → Around P → Around Q
seen tells now = record { left = now.left; held = now.held; beside = tells now.beside }

-- The source is read to its end, and what it had left, where it told that, is as said.
pub record Reads (P : List ℕ → Type 0) (remaining left : Option (List ℕ)) : Type 0 where
  pub holds : IfSome remaining P
  pub ended : left ≡ option_map (λ _. []) remaining

-- ---- what a run does, and why not: `does` and `knows` say it of a command of the program's own

module _ {C P : Type 0} (before after : Around P) where
  -- What was asked for is done. For `--help` and `--version` it is that some text is put.
  abbrev pub Does : (does : C → (before after : Around P) → Type 0) → Option (Asked C) → Type 0
  Does does (Some (Own command)) = does command before after
  Does does (Some Help) = AppendsText before.held after.held
  Does does (Some Version) = AppendsText before.held after.held
  Does does None = ⊥

-- what words ask for of a program, by what it names
abbrev pub requested : {C : Type 0} → (named : List (List ℕ) → Option C) → (words : List (List ℕ)) → Option (Asked C)
requested named words = asked (named words) words

-- what is asked for is a command of the program's own of which this holds
abbrev pub does_own : {C : Type 0} → (C → Bool) → Option (Asked C) → Bool
does_own such (Some (Own command)) = such command
does_own such other = false

-- why a text is not put
abbrev pub IsPutRefusal : Refusal → Type 0
IsPutRefusal Sink = ⊤
IsPutRefusal Memory = ⊤
IsPutRefusal refusal = ⊥

module _ {C P : Type 0} (before after : Around P) where
  -- What is known where what was asked for is refused.
  abbrev pub Knows : (knows : C → (before after : Around P) → Refusal → Type 0) → Option (Asked C) → Refusal → Type 0
  Knows knows (Some (Own command)) refusal = knows command before after refusal
  Knows knows (Some Help) refusal = IsPutRefusal refusal
  Knows knows (Some Version) refusal = IsPutRefusal refusal
  Knows knows None refusal = ⊥

-- the failure that a refusal tells of, as a count of faults shows it
abbrev pub Fails : (source_failed sink_failed : Type 0) → Refusal → Type 0
Fails source_failed sink_failed Source = source_failed
Fails source_failed sink_failed Sink = sink_failed
Fails source_failed sink_failed refusal = ⊤

-- a starter's count of failed starts rose, or stands at its last value
abbrev pub StartFailed : {L : Type 0} → (before after : StarterState L) → Type 0
StartFailed before after = Rose before.failed_starts after.failed_starts

-- Why a run is refused: what failed, as the refusal tells, and what is known besides. Or what was asked for is done, and was not flushed.
pub record HasCause (source_failed sink_failed : Type 0) (Known : Refusal → Type 0) (Done : Type 0) (refusal : Refusal) : Type 0 where
  pub failed : Fails source_failed sink_failed refusal
  pub known : Known refusal ⊎ (Done × IsPutRefusal refusal)

-- ---- how a run ends

module _ {C : Type 0} (asked : Option (Asked C)) (usage : List ℕ) (untouched quiet : Type 0) (Said : List ℕ → Type 0)
    (Cause : Refusal → Type 0) (status : ℕ) where
  -- The words are no command. That is said, and nothing is done.
  pub record IsMisused : Type 0 where
    pub unnamed : asked ≡ None
    pub status_is : status ≡ 2
    pub kept : untouched
    pub said : Said usage

  -- Nothing is said with 0. Else the usage is said, or the refusal that has this status, and that has its cause.
  abbrev pub Reports : Type 0
  Reports = ((status ≡ 0) × quiet) ⊎ (IsMisused ⊎ EndsRefused status_of line_of Said Cause status)
