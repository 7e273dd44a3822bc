-- What an encoder has, and what a call leaves of it and its sink.
use Rattle.std.specs.Prelude.{ℕ, ◌≡◌, ◌≤◌, ◌↔◌, List, ◌++◌, ◌+◌, length, Bool, false, ◌||◌, IsTrue, Option, Some, Result, IsErrOf, OnOk}
use Rattle.std.specs.Io.KnownBytes.{append_known}
use Rattle.std.specs.Rc.{rc_str_bytes}
use Rattle.std.specs.Result.{is_err}
use Rattle.std.specs.declared.alloc.Global.{Global}
use Rattle.std.specs.declared.rc.RcStr.{RcStr}
use Rattle.law_theorem.specs.Headline.{Headline}
use Rattle.law_terms.specs.Plain.{PlainTerm}
use Rattle.law_terms.specs.TypeValues.{Enums}
use Rattle.law_terms.specs.Nodes.{Meaning}
use Rattle.law_texts.specs.Reading.{Expression}
use Rattle.law_lines.specs.NameTables.{Tables}
use Rattle.law_lines.specs.Line.{spelled_lines}
use Rattle.law_lines.specs.Lines.{Call, Encoding, Written, after_call, beginning, lines_of_call}
use Rattle.law_lines.specs.Spelling.{spelled}
use Rattle.law_lines.specs.Text as stated
use Rattle.law_theorem.specs.Fits.{Stages, Fits, encoding_of, stages_after}
use Rattle.law_theorem.specs.WellWritten.{IsWellWritten, most_for_call, most_for_terms}
use Rattle.smt_nodes.specs.declared.interner.Interner.{Interner}
use Rattle.smt_spelling.specs.Names.{enums_under, levels_under, nodes_under, texts_under, AreTables, KeepLevels, KeepTables}
use Rattle.smt_spelling.specs.NodeTexts.{AreTexts, HasName, HasNoTexts}
use Rattle.smt_spelling.specs.declared.node_names.NodeNames.{NodeNames}
use Rattle.smt_encode.specs.declared.encoder.Encoder.{Encoder}
use Rattle.smt_encode.specs.declared.error.EncodeError.{EncodeError}
use Rattle.smt_encode.specs.declared.error.EncodeError.TheVariants.{Spent}

-- the enum types that an encoder knows
abbrev pub enums_in : {S : Type 0} → Encoder S → Enums
enums_in e = enums_under e.writer.names

-- the sink that an encoder holds
abbrev pub sink_of : {S : Type 0} → Encoder S → S
sink_of e = e.writer.script

-- An encoder is spent where an earlier call of it answered an error.
abbrev pub is_spent : {S : Type 0} → Encoder S → Bool
is_spent e = e.failed

-- whether the script is begun: `Option` is declared, by `push`, `encode` or `encode_nodes`
abbrev pub has_begun : {S : Type 0} → Encoder S → Bool
has_begun e = e.begun

-- how many levels are open above the first one, level 0
abbrev pub levels_of : {S : Type 0} → Encoder S → ℕ
levels_of e = levels_under e.writer.names

-- the nodes of an encoder
abbrev pub nodes_in : {S : Type 0} → Encoder S → Interner
nodes_in e = nodes_under e.writer.names

-- the texts that an encoder keeps for its nodes
abbrev pub texts_in : {S : Type 0} → Encoder S → NodeNames
texts_in e = texts_under e.writer.names

-- The encoder has this name for a type, a function or a term, or none.
abbrev pub IsNameOf : {S : Type 0} → Encoder S → Meaning → Option (List ℕ) → Type 0
IsNameOf e m name = HasName (nodes_in e) (texts_in e) m name

-- The encoder's names are these tables.
abbrev pub HasNames : {S : Type 0} → Encoder S → Tables → Type 0
HasNames e s = AreTables e.writer.names s

-- The encoder's names are these tables, and the texts that it keeps for what has no entry are stated over these tables.
abbrev pub HasTexts : {S : Type 0} → Encoder S → Tables → Type 0
HasTexts e s = KeepTables e.writer.names s

-- An encoder that has written nothing: no node has a text, no level is open, and the script isn't begun.
pub record IsFresh {S : Type 0} (e : Encoder S) : Type 0 where
  pub unwritten : HasNoTexts (texts_in e)
  pub bottom : levels_of e ≡ 0
  pub unbegun : has_begun e ≡ false

-- An encoder between calls: its names are these tables, those of the moments of the open pushes are these, the last first, and the
-- script is begun or not.
pub record HasEncoding {S : Type 0} (e : Encoder S) (x : Encoding) : Type 0 where
  pub tables : HasTexts e x.tables
  pub below : KeepLevels e.writer.names x.below
  pub begun : has_begun e ≡ x.begun

-- The bytes that a sink got between two moments have P, where it tells its bytes at both.
abbrev pub OfReceived : (before after : Option (List ℕ)) → (List ℕ → Type 0) → Type 0
OfReceived before after P = (old new : List ℕ) → before ≡ Some old → after ≡ Some new → (bytes : List ℕ) × (new ≡ old ++ bytes) × P bytes

-- The names that an encoder has, listed, have P.
abbrev pub OfNames : {S : Type 0} → Encoder S → (Tables → Type 0) → Type 0
OfNames {S} e P = (s : Tables) × HasNames e s × P s

-- A call put bytes that have P, where the sink tells its bytes before and behind it.
abbrev pub Gave : {S : Type 0} → (S → Option (List ℕ)) → (old new : Encoder S) → (List ℕ → Type 0) → Type 0
Gave contents old new P = OfReceived (contents (sink_of old)) (contents (sink_of new)) P

-- These bytes mean these terms, by the names that the encoder has then.
abbrev pub MeansTerms : {S : Type 0} → (old new : Encoder S) → List PlainTerm → List ℕ → Type 0
MeansTerms old new ts bytes = OfNames new (λ names. Headline (enums_in old) names ts bytes)

-- These bytes are a script that is written well, whose assertions are those of these terms, by the names that the encoder has then.
abbrev pub AreWellWritten : {S : Type 0} → (old new : Encoder S) → List PlainTerm → List ℕ → Type 0
AreWellWritten old new ts bytes =
    OfNames new (λ names. IsWellWritten (enums_in old) bytes ts names (1 + most_for_terms ts))

-- ---- what a call leaves that enters names

-- The sink got the lines that are stated over the tables before, the answer is the text that is stated, and the encoder has the names that
-- are stated then.
pub record PutStated {S : Type 0} (contents : S → Option (List ℕ)) (old new : Encoder S) (w : Written Expression) (answer : RcStr Global) :
    Type 0 where
  pub got : contents (sink_of new) ≡ append_known (contents (sink_of old)) (spelled_lines w.lines)
  pub made : rc_str_bytes answer ≡ spelled w.made
  pub names : HasTexts new w.tables

-- The sink got the declaration of `Option`, where the script was not begun, and the lines of these terms, the encoder has the names that
-- are stated then, and for its nodes the stated texts.
pub record PutScript {S : Type 0} (contents : S → Option (List ℕ)) (old new : Encoder S) (w : Written (List Expression)) : Type 0 where
  pub got : contents (sink_of new) ≡ append_known (contents (sink_of old)) (spelled_lines (beginning (has_begun old) ++ w.lines))
  pub names : HasTexts new w.tables
  pub texts : AreTexts (enums_in old) w.tables (nodes_in new) (texts_in new)

-- The sink got the lines that are stated for a call, and the encoder stands as is stated then.
pub record PutCall {S : Type 0} (contents : S → Option (List ℕ)) (old new : Encoder S) (c : Call) (x : Encoding) : Type 0 where
  pub got : contents (sink_of new) ≡ append_known (contents (sink_of old)) (spelled_lines (lines_of_call (enums_in old) c x))
  pub stands : HasEncoding new (after_call (enums_in old) c x)

-- On Ok a call put what is stated for it, wherever the encoder stood.
abbrev pub PutsCall : {S T E : Type 0} → (S → Option (List ℕ)) → (old new : Encoder S) → Call → Result T E → Type 0
PutsCall contents old new c result = (x : Encoding) → HasEncoding old x → OnOk result (PutCall contents old new c x)

-- What the names were at the moment of each open push stays.
abbrev pub LevelsStay : {S : Type 0} → (old new : Encoder S) → Type 0
LevelsStay old new = (below : List Tables) → KeepLevels old.writer.names below → KeepLevels new.writer.names below

-- ---- what the main theorem says of a list of calls

-- A text and the terms of each level fit the names that an encoder has, and the text is what the encoder's sinks got in these calls.
-- So the main theorem holds of the text, the names that live and the terms of all levels (`FittingTextsAreScripts`).
pub record FitsEncoder {S : Type 0} (e : Encoder S) (text : List ℕ) (x : Stages) : Type 0 where
  pub fits : Fits (enums_in e) text x
  pub stands : HasEncoding e (encoding_of x)

-- On Ok a call keeps that the text, with what the sink got in the call behind it, and the terms, with those of the call, fit the encoder.
abbrev pub CallKeepsFit : {S T E : Type 0} → (S → Option (List ℕ)) → (old new : Encoder S) → Call → Result T E → Type 0
CallKeepsFit contents old new c result = (text : List ℕ) (x : Stages) → FitsEncoder old text x
    → OnOk result (OfReceived (contents (sink_of old)) (contents (sink_of new))
    (λ bytes. FitsEncoder new (text ++ bytes) (stages_after (enums_in old) c x)))

-- So does it keep that the text is well written, with the commands of the call beside those that there were at most.
abbrev pub CallKeepsWellWritten : {S T E : Type 0} → (S → Option (List ℕ)) → (old new : Encoder S) → Call → Result T E → Type 0
CallKeepsWellWritten contents old new c result =
    (text : List ℕ) (x : Stages) (most : ℕ) → FitsEncoder old text x → IsWellWritten (enums_in old) text x.now.terms x.now.tables most →
    OnOk result (OfReceived (contents (sink_of old)) (contents (sink_of new)) (λ bytes.
    IsWellWritten (enums_in old) (text ++ bytes) (stages_after (enums_in old) c x).now.terms (stages_after (enums_in old) c x).now.tables
    (most + (length (beginning x.begun) + most_for_call c))))

-- ---- what a call of `encode` leaves of a fresh encoder

-- The sink got the stated text of these terms, and the encoder has the stated names, and for its nodes the stated texts.
pub record WroteText {S : Type 0} (contents : S → Option (List ℕ)) (old new : Encoder S) (ts : List PlainTerm) : Type 0 where
  pub text : contents (sink_of new) ≡ append_known (contents (sink_of old)) (stated.text (enums_in old) ts)
  pub names : HasNames new (stated.names (enums_in old) ts)
  pub texts : AreTexts (enums_in old) (stated.names (enums_in old) ts) (nodes_in new) (texts_in new)

-- ---- when an encoder is spent

-- `Spent` is the answer exactly of an encoder that was spent, which stays as it is. Afterwards it is spent where it was, or where this
-- call answered an error.
pub record Spends {S T : Type 0} (old new : Encoder S) (result : Result T EncodeError) : Type 0 where
  pub answer : IsErrOf result Spent ↔ IsTrue (is_spent old)
  pub unchanged : IsTrue (is_spent old) → new ≡ old
  pub afterwards : is_spent new ≡ (is_spent old || is_err result)

-- The same of a call that writes lines beside the script: whether the script is begun stays as it was.
pub record SpendsOnError {S T : Type 0} (old new : Encoder S) (result : Result T EncodeError) : Type 0 where
  pub answer : IsErrOf result Spent ↔ IsTrue (is_spent old)
  pub unchanged : IsTrue (is_spent old) → new ≡ old
  pub afterwards : is_spent new ≡ (is_spent old || is_err result)
  pub begun : has_begun new ≡ has_begun old

-- The encoder holds the same sink, whose count of faults did not fall, and the same enum types.
pub record Keeps {S : Type 0} (faults : S → ℕ) (place : S → List ℕ) (old new : Encoder S) : Type 0 where
  pub later : faults (sink_of old) ≤ faults (sink_of new)
  pub sink : place (sink_of new) ≡ place (sink_of old)
  pub enums : enums_in new ≡ enums_in old
