-- What a sink got in a call that stopped with an error.
use Rattle.std.specs.Prelude.{ℕ, ◌≡◌, ◌++◌, Bool, false, IfErr, IsTrue, List, Option, Some, is_some, Result, Ok, Err}
use Rattle.std.specs.Io.KnownBytes.{append_known}
use Rattle.law_terms.specs.Faults.{Fault}
use Rattle.law_terms.specs.Plain.{PlainTerm}
use Rattle.law_terms.specs.Typing.{AreTyped}
use Rattle.law_scripts.specs.Script.{State, HasWholeLines, Holds, run}
use Rattle.law_lines.specs.Command.{commands}
use Rattle.law_lines.specs.Fit.{Fit, AreObeyable}
use Rattle.law_lines.specs.Line.{Line, spelled_lines}
use Rattle.law_lines.specs.Lines.{Enums, Written, beginning, encode}
use Rattle.law_lines.specs.NameTables.{Tables}
use Rattle.smt_script.specs.Sink.{AppendsPart}
use Rattle.smt_encode.specs.Refusals.{write_fault}
use Rattle.smt_encode.specs.Steps.{HasTables, Wrote}
use Rattle.smt_encode.specs.declared.error.WriteError.{WriteError}
use Rattle.smt_encode.specs.declared.writer.Writer.{Writer}

-- A call that writes stated lines stopped with this error. Its sink got a first part of the first of these lines, so whole comments and
-- commands and at most one line that is cut. Where the error names a fault of the terms, it got all of them, and none of them is cut.
-- These first lines can be obeyed, in the sense that is given. The writer has the names of some tables.
pub record Stopped {S : Type 0} (contents : S → Option (List ℕ)) (CanBeObeyed : List Line → Type 0) (old new : Writer S)
    (stated : List Line) (e : WriteError) : Type 0 where
  pub lines : List Line
  pub rest : List Line
  pub first : lines ++ rest ≡ stated
  pub obeyed : CanBeObeyed lines
  pub part : AppendsPart (contents old.script) (contents new.script) (spelled_lines lines)
  pub all : (f : Fault) → write_fault e ≡ Some f → contents new.script ≡ append_known (contents old.script) (spelled_lines lines)
  pub named : Tables
  pub names : HasTables new named

-- Where this is typed, the lines can be obeyed wherever these tables fit.
abbrev pub AreObeyed : Enums → (Typed : Type 0) → Tables → List Line → Type 0
AreObeyed enums Typed s lines = Typed → (left : Tables) × AreObeyable enums s lines left

-- A call that writes what is stated over these tables wrote it, or stopped.
abbrev pub WritesOrStopsHere : {S A T : Type 0} → (S → Option (List ℕ)) → Enums → (Typed : Type 0) → Tables → Writer S → Writer S →
    Written A → (A → T → Type 0) → Result T WriteError → Type 0
WritesOrStopsHere contents enums Typed s old new w Shows (Ok x) = Wrote contents old new w.lines w.tables × Shows w.made x
WritesOrStopsHere contents enums Typed s old new w Shows (Err e) = Stopped contents (AreObeyed enums Typed s) old new w.lines e

-- The same of what is stated for the tables before the call, whichever tables are the writer's names.
abbrev pub WritesOrStops : {S A T : Type 0} → (S → Option (List ℕ)) → Enums → (Typed : Type 0) → Writer S → Writer S →
    (Tables → Written A) → (A → T → Type 0) → Result T WriteError → Type 0
WritesOrStops contents enums Typed old new stated Shows result =
    (s : Tables) → HasTables old s → WritesOrStopsHere contents enums Typed s old new (stated s) Shows result

-- Where a call that writes what is stated for the tables before it answered with an error, it stopped, whichever tables are the
-- writer's names.
abbrev pub Stops : {S A T : Type 0} → (S → Option (List ℕ)) → Enums → (Typed : Type 0) → Writer S → Writer S → (Tables → Written A) →
    Result T WriteError → Type 0
Stops contents enums Typed old new stated result =
    (s : Tables) → HasTables old s → IfErr result (λ e. Stopped contents (AreObeyed enums Typed s) old new (stated s).lines e)

-- A call that writes a node's own lines stopped. Its sink got a first part of them, and nothing where the node has a fault. The writer
-- has the names of some tables.
pub record OwnStopped {S : Type 0} (contents : S → Option (List ℕ)) (fault : Option Fault) (old new : Writer S) (lines : List Line) :
    Type 0 where
  pub part : AppendsPart (contents old.script) (contents new.script) (spelled_lines lines)
  pub nothing_put : IsTrue (is_some fault) → new.script ≡ old.script
  pub named : Tables
  pub names : HasTables new named

-- A call that writes a node's own lines, of a node with this fault or none, wrote them, or stopped.
abbrev pub WritesOwn : {S A T E : Type 0} → (S → Option (List ℕ)) → Option Fault → Writer S → Writer S → Written A → (A → T → Type 0) →
    Result T E → Type 0
WritesOwn contents fault old new w Shows (Ok x) = Wrote contents old new w.lines w.tables × Shows w.made x
WritesOwn contents fault old new w Shows (Err e) = OwnStopped contents fault old new w.lines

-- Lines are obeyed in a state: they are whole comments and commands, which leave a state that goes on.
pub record Obeyed (lines : List Line) (state : State) : Type 0 where
  pub after : State
  pub runs : run (commands lines) state ≡ Some after
  pub holds : Holds (spelled_lines lines) (commands lines)
  pub whole : HasWholeLines (spelled_lines lines)
  pub running : after.ended ≡ false

-- A call that writes the script of terms over these tables stopped with this error. Behind the declaration of `Option`, where the script
-- was not begun, its sink got a first part of the first of the lines that are stated; where the error names a fault of the terms, it got
-- all of them. Where the terms are typed, these first lines are obeyed wherever the tables fit a state. The writer has the names of some
-- tables.
pub record ScriptStopped {S : Type 0} (contents : S → Option (List ℕ)) (enums : Enums) (begun : Bool) (s : Tables) (old new : Writer S)
    (ts : List PlainTerm) (e : WriteError) : Type 0 where
  pub lines : List Line
  pub rest : List Line
  pub first : lines ++ rest ≡ (encode enums ts s).lines
  pub obeyed : AreTyped ts → (state : State) → Fit enums s state → Obeyed lines state
  pub part : AppendsPart (contents old.script) (contents new.script) (spelled_lines (beginning begun ++ lines))
  pub all : (f : Fault) → write_fault e ≡ Some f →
      contents new.script ≡ append_known (contents old.script) (spelled_lines (beginning begun ++ lines))
  pub named : Tables
  pub names : HasTables new named
