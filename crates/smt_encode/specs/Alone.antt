-- What a call leaves that writes the lines of one name alone.
use Rattle.std.specs.Prelude.{ℕ, ◌≡◌, ◌++◌, ◌∷◌, IsTrue, List, [], Option, Some, None, Result, Ok, Err, codes, is_some, map}
use Rattle.std.specs.Io.KnownBytes.{append_known}
use Rattle.std.specs.Rc.{rc_str_bytes}
use Rattle.std.specs.declared.alloc.Global.{Global}
use Rattle.std.specs.declared.rc.RcStr.{RcStr}
use Rattle.law_terms.specs.Faults.{Fault, entity_fault, entity_type_fault}
use Rattle.law_terms.specs.TypeValues.{Enums, members_of}
use Rattle.smt_term.specs.Entities.{bytes_of_id, bytes_of_type}
use Rattle.smt_term.specs.declared.entity.EntityType.{EntityType}
use Rattle.smt_term.specs.declared.entity.EntityUID.{EntityUID}
use Rattle.law_texts.specs.LineTexts.{define_fun_text, spaced}
use Rattle.law_texts.specs.Reading.{Expression}
use Rattle.law_scripts.specs.Script.{name}
use Rattle.law_lines.specs.EntryNames.{enum_member}
use Rattle.law_lines.specs.LineForms.{entity_body}
use Rattle.law_lines.specs.Lines.{next_term}
use Rattle.law_lines.specs.NameTables.{Tables}
use Rattle.law_lines.specs.Spelling.{spelled}
use Rattle.smt_script.specs.declared.sink.SinkError.TheVariants.{Fault as Failed}
use Rattle.smt_spelling.specs.TextFaults.{Finds}
use Rattle.smt_encode.specs.Encoded.{nodes_in, sink_of, texts_in, HasNames, HasTexts, Keeps}
use Rattle.smt_encode.specs.Errors.{encode_error}
use Rattle.smt_encode.specs.Refusals.{write_fault}
use Rattle.smt_encode.specs.Steps.{FaultCounted}
use Rattle.smt_encode.specs.declared.encoder.Encoder.{Encoder}
use Rattle.smt_encode.specs.declared.error.EncodeError.{EncodeError}
use Rattle.smt_encode.specs.declared.error.WriteError.{WriteError}
use Rattle.smt_encode.specs.declared.error.WriteError.TheVariants.{Sink}
use Rattle.smt_encode.specs.declared.writer.Writer.{Writer}

-- ---- what was put

-- The sink got these bytes, and the answer is this name.
pub record PutUnder {S : Type 0} (contents : S → Option (List ℕ)) (old new : S) (name bytes : List ℕ) (answer : RcStr Global) : Type 0 where
  pub got : contents new ≡ append_known (contents old) bytes
  pub named : rc_str_bytes answer ≡ name

-- the empty set of a sort, as a text (cvc5's sets)
abbrev pub empty_set_text : (sort : List ℕ) → List ℕ
empty_set_text sort = codes "(as set.empty " ++ (sort ++ codes ")")

-- the body of a set, by its sort and its elements as they stand: these inserted in the empty set (cvc5's sets)
abbrev pub set_body_text : (sort : List ℕ) → (elements : List (List ℕ)) → List ℕ
set_body_text sort [] = empty_set_text sort
set_body_text sort (e ∷ es) = codes "(set.insert " ++ (spaced ((e ∷ es) ++ empty_set_text sort ∷ []) ++ codes ")")

-- the body of a record, by its sort and its fields as they stand, a space between each two: the sort alone where the joined fields have no
-- character
abbrev pub body_of_joined : (sort fields : List ℕ) → List ℕ
body_of_joined sort [] = sort
body_of_joined sort (b ∷ bs) = codes "(" ++ (sort ++ (codes " " ++ ((b ∷ bs) ++ codes ")")))

-- the body of a record, by its sort and its fields as they stand: its constructor, which is named as the sort, at the fields
abbrev pub record_body_text : (sort : List ℕ) → (fields : List (List ℕ)) → List ℕ
record_body_text sort fields = body_of_joined sort (spaced fields)

-- the sorts that stand beside attributes, each as it stands
abbrev pub sorts_given : List (RcStr Global × RcStr Global) → List Expression
sorts_given pairs = map (λ p. name (rc_str_bytes p.1)) pairs

-- the name of an entity, by the members of its type, where this is an enum type: the constructor of the member, or the next name
abbrev pub name_of_entity : (members : Option (List (List ℕ))) → (id sort : List ℕ) → Tables → List ℕ
name_of_entity (Some members) id sort s = enum_member members sort id
name_of_entity None id sort s = next_term s

-- the line of an entity, which a member of an enum type does not have: it defines the next name as the constructor at the id, which is
-- named as the sort
abbrev pub line_of_entity : (members : Option (List (List ℕ))) → (id sort : List ℕ) → Tables → List ℕ
line_of_entity (Some members) id sort s = []
line_of_entity None id sort s = define_fun_text (next_term s) [] sort (spelled (entity_body sort id))

-- ---- why it refuses

-- the fault of an entity type, over these enum types
abbrev pub fault_of_type : Enums → EntityType → Option Fault
fault_of_type enums ety = entity_type_fault (bytes_of_type ety) (members_of enums (bytes_of_type ety))

-- the fault of an entity, over these enum types, apart from that of its type
abbrev pub fault_of_entity : Enums → EntityUID → Option Fault
fault_of_entity enums e = entity_fault (bytes_of_type e.ety) (bytes_of_id e.id) (members_of enums (bytes_of_type e.ety))

-- ---- what stays

-- The encoder keeps what it held, and its names as they are. Where the call has a fault of its own, it put nothing.
pub record NamesStay {S : Type 0} (faults : S → ℕ) (place : S → List ℕ) (fault : Option Fault) (old new : Encoder S) : Type 0 where
  pub kept : Keeps faults place old new
  pub nodes : nodes_in new ≡ nodes_in old
  pub texts : texts_in new ≡ texts_in old
  pub names : (s : Tables) → HasNames old s → HasNames new s
  pub stated : (s : Tables) → HasTexts old s → HasTexts new s
  pub nothing_put : IsTrue (is_some fault) → sink_of new ≡ sink_of old

-- ---- the same of a writer

-- The writer's names stay. Its errors are those of the sink, or have this fault; where there is a fault, it put nothing.
pub record PutsAlone {S T : Type 0} (faults : S → ℕ) (place : S → List ℕ) (fault : Option Fault) (old new : Writer S)
    (result : Result T WriteError) : Type 0 where
  pub counted : FaultCounted faults place (Sink Failed) old new result
  pub finds : Finds write_fault fault result
  pub names : new.names ≡ old.names
  pub nothing_put : IsTrue (is_some fault) → new.script ≡ old.script

-- an outcome of a writer as an encoder answers it
abbrev pub encoded : {T : Type 0} → Result T WriteError → Result T EncodeError
encoded (Ok x) = Ok x
encoded (Err e) = Err (encode_error e)
