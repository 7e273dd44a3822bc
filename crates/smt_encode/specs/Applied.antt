-- What the calls leave that write the line of one application, by the texts of its operands as they stand.
use Rattle.std.specs.Prelude.{ℕ, ◌≡◌, Bool, true, false, List, [], ◌∷◌, ◌++◌, map, Option, Some}
use Rattle.std.specs.Io.KnownBytes.{append_known}
use Rattle.std.specs.Rc.{rc_str_bytes}
use Rattle.std.specs.declared.alloc.Global.{Global}
use Rattle.std.specs.declared.rc.RcStr.{RcStr}
use Rattle.law_terms.specs.Faults.{Fault, MalformedRecordGet}
use Rattle.law_terms.specs.Plain.{PlainOp, RecordGetOp, UufOp, PlainTerm, PlainType}
use Rattle.law_terms.specs.TypeValues.{Enums}
use Rattle.law_terms.specs.Types.{type_of}
use Rattle.law_texts.specs.LineTexts.{define_fun_text}
use Rattle.law_terms.specs.Nodes.{FunctionMeaning}
use Rattle.law_texts.specs.Reading.{Expression}
use Rattle.law_scripts.specs.Script.{name}
use Rattle.law_lines.specs.Line.{spelled_lines}
use Rattle.law_lines.specs.LineForms.{application_body}
use Rattle.law_lines.specs.Lines.{Written, next_term}
use Rattle.law_lines.specs.NameTables.{Tables}
use Rattle.law_lines.specs.Spelling.{spelled}
use Rattle.smt_spelling.specs.TextFaults.{pattern_fault}
use Rattle.smt_encode.specs.Encoded.{sink_of, HasTexts}
use Rattle.smt_spelling.specs.NodeEntries.{selector}
use Rattle.smt_spelling.specs.NodeLines.{meaning_fault}
use Rattle.smt_spelling.specs.SelectorFaults.{fault_of_selection}
use Rattle.smt_encode.specs.Steps.{HasTables}
use Rattle.smt_encode.specs.declared.encoder.Encoder.{Encoder}
use Rattle.smt_encode.specs.declared.writer.Writer.{Writer}

-- ---- what is put

-- the body that takes an attribute of a value of a type, by the name that the type has: the selector at the operands, which stand as they
-- are
abbrev pub selection_text : (attribute : List ℕ) → PlainType → (operands : List (List ℕ)) → Tables → List ℕ
selection_text a t es s = spelled (application_body (selector a t s) (RecordGetOp a) (map name es))

-- the line of an application under the next name, by what it begins with, its sort and its operands as they stand
abbrev pub application_line : (head : Expression) → PlainOp → (sort : List ℕ) → (operands : List (List ℕ)) → Tables → List ℕ
application_line head op sort es s = define_fun_text (next_term s) [] sort (spelled (application_body head op (map name es)))

-- The sink got the lines of what an application begins with, and behind them the application's own; the answer is its name. The encoder has
-- the names of what it begins with.
pub record PutApplied {S : Type 0} (contents : S → Option (List ℕ)) (old new : Encoder S) (w : Written Expression) (op : PlainOp)
    (sort : List ℕ) (operands : List (List ℕ)) (answer : RcStr Global) : Type 0 where
  pub got :
      contents (sink_of new)
      ≡ append_known (contents (sink_of old)) (spelled_lines w.lines ++ application_line w.made op sort operands w.tables)
  pub named : rc_str_bytes answer ≡ next_term w.tables
  pub names : HasTexts new w.tables

-- ---- why it refuses

-- the fault of an application by its terms: of `record.get` that there is no term, or else the fault at the first one's type; of a function
-- its own; of any other operator that of its pattern
abbrev pub fault_of_application : Enums → Tables → PlainOp → List PlainTerm → Option Fault
fault_of_application enums s (RecordGetOp a) [] = Some MalformedRecordGet
fault_of_application enums s (RecordGetOp a) (t ∷ ts) = fault_of_selection s a (type_of t)
fault_of_application enums s (UufOp f) ts = meaning_fault enums (FunctionMeaning f)
fault_of_application enums s op ts = pattern_fault op

-- whether an application begins with a function, which is written before it where it has no name
abbrev pub begins_with_function : PlainOp → Bool
begins_with_function (UufOp f) = true
begins_with_function op = false

-- ---- the same of a writer

-- A writer's sink got the lines of what an application begins with, and behind them the application's own; the answer is its name.
-- The writer has the names of what it begins with.
pub record WroteApplied {S : Type 0} (contents : S → Option (List ℕ)) (old new : Writer S) (w : Written Expression) (op : PlainOp)
    (sort : List ℕ) (operands : List (List ℕ)) (answer : RcStr Global) : Type 0 where
  pub got :
      contents new.script ≡ append_known (contents old.script) (spelled_lines w.lines ++ application_line w.made op sort operands w.tables)
  pub named : rc_str_bytes answer ≡ next_term w.tables
  pub names : HasTables new w.tables
