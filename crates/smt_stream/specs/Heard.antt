-- What a stream of the program says, and where it stands.
use Rattle.std.specs.Prelude.{◌≡◌, ℕ, false, List, [], Option}
use Rattle.std.specs.Io.KnownBytes.{prepend_known}
use Rattle.law_texts.specs.Reading.{Expression}
use Rattle.law_verdicts.specs.Machine.{Machine, put_at, put_then, turn}
use Rattle.smt_stream.specs.declared.stream.Stream.{Stream}
use Rattle.smt_stream.specs.declared.stream.Heard.{Heard}
use Rattle.smt_stream.specs.declared.stream.Heard.TheVariants.{Reply, Stop}
use Rattle.smt_stream.specs.declared.stream.Stage.TheVariants as stage
use Rattle.law_verdicts.specs.Streams.{Course, Standing, Waiting, Exited, Stopped, behind_turn, first_course, stop_line}
use Rattle.smt_mini.specs.Replies.{plain_reply}
use Rattle.smt_stream.specs.Runs.{IsWholeAt, Says}
use Rattle.smt_stream.specs.Scanning.{plain_scan, plain_stop}
use Rattle.smt_mini.specs.Stands.{Stands}

-- the bytes that are put
abbrev pub heard_text : Heard → List ℕ
heard_text (Reply r) = put_then (plain_reply r) []
heard_text (Stop s) = stop_line (plain_stop s)

-- the course of a stream whose solver stands for this machine
abbrev pub course_of : Stream → Machine → Course
course_of d m = record { machine = m; scan = plain_scan d.scanner; held = d.held.items; odd = d.odd; total = d.total }

-- The stream stands there.
abbrev pub IsAt : Stream → Standing → Type 0
IsAt d (Waiting c) = (d.stage ≡ stage.Waiting) × Stands d.mini c.machine × (c ≡ course_of d c.machine)
IsAt d Exited = d.stage ≡ stage.Exited
IsAt d Stopped = d.stage ≡ stage.Stopped

-- the course behind a command, with this machine
abbrev pub behind_command : Course → Machine → Course
behind_command c m = record { machine = m; scan = c.scan; held = []; odd = false; total = c.total }

-- This is heard for a command at which the machine takes its turn, and the stream stands where it stands behind the turn.
abbrev pub IsFed : Course → Machine → Expression → Heard → Stream → Type 0
IsFed c m e heard d = (heard_text heard ≡ put_at (turn m e) (λ next. [])) × IsAt d (behind_turn c.scan c.total (turn m e))

-- A stream was led from its first byte on over bytes that a source gave, and a sink got what is put for them. Where it still waits,
-- these bytes were all.
pub record IsLed (left left_behind before after : Option (List ℕ)) (d : Stream) : Type 0 where
  pub given : List ℕ
  pub last : Standing
  pub from_left : left ≡ prepend_known given left_behind
  pub says : Says (Waiting first_course) given before after last
  pub whole : IsWholeAt last left_behind
  pub stands : IsAt d last
