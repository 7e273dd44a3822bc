-- What the calls of a writer leave: lines that the sink got, and the names afterwards.
use Rattle.std.specs.Prelude.{ℕ, ◌≡◌, ◌≤◌, Bool, List, ◌++◌, Option, Some, Result, IfOk, OnOk, IsErrOf}
use Rattle.std.specs.Io.KnownBytes.{append_known}
use Rattle.law_terms.specs.Plain.{PlainTerm}
use Rattle.law_lines.specs.Line.{Line, spelled_lines}
use Rattle.law_lines.specs.Lines.{Enums, Written, beginning, encode}
use Rattle.law_lines.specs.NameTables.{Tables}
use Rattle.smt_script.specs.Sink.{Rose}
use Rattle.smt_nodes.specs.View.{place_of}
use Rattle.smt_nodes.specs.declared.id.NodeId.{NodeId}
use Rattle.smt_spelling.specs.Names.{enums_under, nodes_under, texts_under, KeepTables, StandsOn}
use Rattle.smt_spelling.specs.NodeTexts.{text_at}
use Rattle.smt_spelling.specs.LookUps.{look_ups_left}
use Rattle.smt_encode.specs.declared.writer.Writer.{Writer}

-- The texts of a writer are those of these tables.
abbrev pub HasTables : {S : Type 0} → Writer S → Tables → Type 0
HasTables w s = KeepTables w.names s

-- The sink got these lines, and the writer has the names of these tables.
pub record Wrote {S : Type 0} (contents : S → Option (List ℕ)) (old new : Writer S) (lines : List Line) (tables : Tables) : Type 0 where
  pub names : HasTables new tables
  pub contents_are : contents new.script ≡ append_known (contents old.script) (spelled_lines lines)

-- On Ok the sink got this line. The names stay as they were.
pub record PutsLine {S T E : Type 0} (contents : S → Option (List ℕ)) (old new : Writer S) (line : List ℕ) (result : Result T E) :
    Type 0 where
  pub got : OnOk result (contents new.script ≡ append_known (contents old.script) line)
  pub same_names : new.names ≡ old.names

-- Where a call on a writer answered Ok, it wrote what is stated, and its answer shows what was made.
abbrev pub WritesHere : {S A T E : Type 0} → (S → Option (List ℕ)) → Writer S → Writer S → Written A → (A → T → Type 0) → Result T E →
    Type 0
WritesHere contents old new w Shows result = IfOk result (λ x. Wrote contents old new w.lines w.tables × Shows w.made x)

-- The same of what is stated for the tables before the call, whichever tables are the writer's names.
abbrev pub WritesStated : {S A T E : Type 0} → (S → Option (List ℕ)) → Writer S → Writer S → (Tables → Written A) → (A → T → Type 0) →
    Result T E → Type 0
WritesStated contents old new stated Shows result = (s : Tables) → HasTables old s → WritesHere contents old new (stated s) Shows result

-- Where a call on a writer answered Ok, it wrote the declaration of `Option`, unless the script was begun, and the lines of these terms
-- over the tables before the call, whichever tables are the writer's names.
abbrev pub WritesScript : {S T E : Type 0} → (S → Option (List ℕ)) → Writer S → Writer S → (begun : Bool) → Enums → List PlainTerm →
    Result T E → Type 0
WritesScript contents old new begun enums ts result =
    (s : Tables) → HasTables old s →
    OnOk result (Wrote contents old new (beginning begun ++ (encode enums ts s).lines) (encode enums ts s).tables)

-- The writer holds the same sink, whose count of faults did not fall, and its nodes have their texts over the same enum types.
pub record HoldsSink {S : Type 0} (faults : S → ℕ) (place : S → List ℕ) (old new : Writer S) : Type 0 where
  pub later : faults old.script ≤ faults new.script
  pub sink : place new.script ≡ place old.script
  pub enums : enums_under new.names ≡ enums_under old.names

-- This error comes only where the sink's count of faults rose. The writer holds what it held.
pub record FaultCounted {S T E : Type 0} (faults : S → ℕ) (place : S → List ℕ) (fault : E) (old new : Writer S) (result : Result T E) :
    Type 0 where
  pub held : HoldsSink faults place old new
  pub cause : IsErrOf result fault → Rose (faults old.script) (faults new.script)

-- The same where nodes are written: the nodes and the room stay, and so do the texts that were kept, and those of the nodes from a place
-- on.
pub record Walks {S T E : Type 0} (faults : S → ℕ) (place : S → List ℕ) (fault : E) (behind : ℕ) (old new : Writer S) (result : Result T E)
    : Type 0 where
  pub counted : FaultCounted faults place fault old new result
  pub stands : StandsOn old.names new.names
  pub kept : (id : NodeId) (text : List ℕ) → text_at (texts_under old.names) id ≡ Some text → text_at (texts_under new.names) id ≡ Some text
  pub later : (id : NodeId) → behind ≤ place_of id → text_at (texts_under new.names) id ≡ text_at (texts_under old.names) id

-- how many parts the nodes of a set have that a writer did not write yet
abbrev pub look_ups_in : {S : Type 0} → (ℕ → Bool) → Writer S → ℕ
look_ups_in has w = look_ups_left has (nodes_under w.names) (texts_under w.names)
