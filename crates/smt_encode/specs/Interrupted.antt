-- What a sink has after an error of an encoder.
use Rattle.std.specs.Prelude.{ℕ, ◌≡◌, ◌++◌, Bool, true, false, IfErr, List, Option, Result}
use Rattle.std.specs.Io.KnownBytes.{append_known}
use Rattle.law_scripts.specs.Script.{State}
use Rattle.law_scripts.specs.Written.{IsOpenScript}
use Rattle.law_lines.specs.Line.{Line, spelled_lines}
use Rattle.law_lines.specs.Lines.{Call, lines_of_call}
use Rattle.law_theorem.specs.Fits.{Stages, encoding_of}
use Rattle.smt_script.specs.Sink.{AppendsPart}
use Rattle.smt_encode.specs.Encoded.{enums_in, sink_of, FitsEncoder}
use Rattle.smt_encode.specs.declared.encoder.Encoder.{Encoder}
use Rattle.smt_encode.specs.declared.error.EncodeError.{EncodeError}
use Rattle.smt_encode.specs.declared.error.EncodeError.TheVariants.{Io, Memory}

-- A line may be cut short behind these errors alone: the sink failed, or there was no memory.
abbrev pub may_cut : EncodeError → Bool
may_cut Io = true
may_cut Memory = true
may_cut e = false

-- A call stopped with this error behind a text. The sink got a first part of the first of the lines that are stated for the call: so whole
-- comments and commands, and at most one more that is cut. With these lines behind it the text is a script. After an error that cuts no
-- line the sink got all of them.
pub record Interrupted {S : Type 0} (contents : S → Option (List ℕ)) (old new : Encoder S) (text : List ℕ) (stated : List Line)
    (e : EncodeError) : Type 0 where
  pub lines : List Line
  pub rest : List Line
  pub first : lines ++ rest ≡ stated
  pub state : State
  pub script : IsOpenScript (text ++ spelled_lines lines) state
  pub part : AppendsPart (contents (sink_of old)) (contents (sink_of new)) (spelled_lines lines)
  pub whole : may_cut e ≡ false → contents (sink_of new) ≡ append_known (contents (sink_of old)) (spelled_lines lines)

-- After an error of a call, wherever a text and the terms of all levels fitted the encoder, the call was interrupted so.
abbrev pub IsInterrupted : {S T : Type 0} → (S → Option (List ℕ)) → (old new : Encoder S) → Call → Result T EncodeError → Type 0
IsInterrupted contents old new c result =
    (text : List ℕ) (x : Stages) → FitsEncoder old text x →
    IfErr result (Interrupted contents old new text (lines_of_call (enums_in old) c (encoding_of x)))
