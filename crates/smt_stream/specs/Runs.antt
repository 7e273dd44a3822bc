-- What a run puts, and why it is refused.
use Rattle.std.specs.Prelude.{◌≡◌, ⊤, ℕ, codes, IfSome, List, [], ◌++◌, Option, Some, None}
use Rattle.std.specs.Io.KnownBytes.{append_known, prepend_known}
use Rattle.smt_script.specs.declared.sink.SinkError.{SinkError}
use Rattle.smt_script.specs.declared.sink.SinkError.TheVariants.{Fault as SinkFault, Memory as SinkWant}
use Rattle.smt_stream.specs.Words.{help_text, version_text}
use Rattle.smt_stream.specs.declared.command.Command.{Command}
use Rattle.smt_stream.specs.declared.command.Command.TheVariants.{Solve, Help, Version}
use Rattle.smt_stream.specs.declared.refusal.Refusal.{Refusal}
use Rattle.smt_stream.specs.declared.refusal.Refusal.TheVariants.{Usage, Source, Sink, Memory}
use Rattle.law_verdicts.specs.Streams.{Standing, Waiting, Exited, Stopped, TakesAll, first_course, put_at_end, status_at}

-- ---- refusals

-- the status of a refusal
abbrev pub status_of : Refusal → ℕ
status_of Usage = 2
status_of Source = 5
status_of Sink = 6
status_of Memory = 7

-- the line of a refusal
abbrev pub line_of : Refusal → List ℕ
line_of Usage = codes "usage: smtmini\n"
line_of Source = codes "source fault\n"
line_of Sink = codes "sink fault\n"
line_of Memory = codes "memory\n"

-- the refusal of a run, where bytes were not put
abbrev pub sink_refusal : SinkError → Refusal
sink_refusal SinkFault = Sink
sink_refusal SinkWant = Memory

-- Why a run was refused: the words are no command, or the source failed, or the sink, each as its count of faults tells. Want of memory is
-- free.
abbrev pub HasCause : (words source_failed sink_failed : Type 0) → Refusal → Type 0
HasCause words source_failed sink_failed Usage = words
HasCause words source_failed sink_failed Source = source_failed
HasCause words source_failed sink_failed Sink = sink_failed
HasCause words source_failed sink_failed Memory = ⊤

-- ---- what is put

-- What a sink holds behind bytes that were taken, and where the stream stands then.
abbrev pub Says : Standing → List ℕ → (before after : Option (List ℕ)) → Standing → Type 0
Says first bytes before after last = (put : List ℕ) × TakesAll first bytes put last × (after ≡ append_known before put)

-- Where the stream still waits, these bytes were all.
abbrev pub IsWholeAt : Standing → Option (List ℕ) → Type 0
IsWholeAt (Waiting c) left = IfSome left (λ bytes. bytes ≡ [])
IsWholeAt Exited left = ⊤
IsWholeAt Stopped left = ⊤

-- The source gave bytes, and the sink got what a stream puts for them, and for their end where all were given. The status says how
-- the stream ended.
pub record Converses (left left_behind before after : Option (List ℕ)) (status : ℕ) : Type 0 where
  pub given : List ℕ
  pub last : Standing
  pub put : List ℕ
  pub from_left : left ≡ prepend_known given left_behind
  pub takes : TakesAll (Waiting first_course) given put last
  pub whole : IsWholeAt last left_behind
  pub got : after ≡ append_known before (put ++ put_at_end last)
  pub ends : status ≡ status_at last

-- The status is that of a refusal that has its cause, and its line was said.
abbrev pub IsRefused : (words source_failed sink_failed : Type 0) → (Said : List ℕ → Type 0) → (status : ℕ) → Type 0
IsRefused words source_failed sink_failed Said status =
    (refusal : Refusal) × (status ≡ status_of refusal) × HasCause words source_failed sink_failed refusal × Said (line_of refusal)

-- ---- what a run does

-- What the words ask for was done: the source and the sink conversed, or a text was put.
abbrev pub IsDone : (left left_behind before after : Option (List ℕ)) → Option Command → (status : ℕ) → Type 0
IsDone left left_behind before after (Some Solve) status = Converses left left_behind before after status
IsDone left left_behind before after (Some Help) status = (after ≡ append_known before help_text) × (status ≡ 0)
IsDone left left_behind before after (Some Version) status = (after ≡ append_known before version_text) × (status ≡ 0)
IsDone left left_behind before after None status = ⊥
