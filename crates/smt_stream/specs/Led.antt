-- What is put for the bytes that were sent to a link.
use Rattle.std.specs.Prelude.{ℕ, ◌≡◌, Bool, false, List}
use Rattle.law_verdicts.specs.Streams.{Standing, TakesAll, Waiting, first_course}
use Rattle.smt_stream.specs.Heard.{IsAt}
use Rattle.smt_stream.specs.declared.stream.Stream.{Stream}

-- These bytes are put for those that were sent, and unless there was no memory the stream stands behind them.
pub record IsLed (stream : Stream) (broken : Bool) (sent out : List ℕ) : Type 0 where
  pub last : Standing
  pub takes : TakesAll (Waiting first_course) sent out last
  pub stands : broken ≡ false → IsAt stream last

-- These bytes are put for those that were sent. It is a fact alone, without where the stream stands.
abbrev pub IsAnswers : (sent out : List ℕ) → Type 0
IsAnswers sent out = ∥ ((last : Standing) × TakesAll (Waiting first_course) sent out last) ∥₁
