-- The selector with which an application of `record.get` begins.
use Rattle.std.specs.Prelude.{◌≡◌, ℕ, List, Option, Some, None}
use Rattle.std.specs.Rc.{rc_str_bytes}
use Rattle.std.specs.declared.alloc.Global.{Global}
use Rattle.std.specs.declared.rc.RcStr.{RcStr}
use Rattle.law_terms.specs.Nodes.{PlainLabel, ApplicationLabel}
use Rattle.law_texts.specs.Reading.{Expression}
use Rattle.law_lines.specs.LineForms.{operator_head}
use Rattle.law_lines.specs.Spelling.{spelled}
use Rattle.law_terms.specs.Plain.{PlainOp, RecordGetOp}

-- the attribute that what has a label takes, None where it takes none
abbrev pub selected_by : PlainLabel → Option (List ℕ)
selected_by (ApplicationLabel (RecordGetOp a)) = Some a
selected_by l = None

-- an application begins with this: with the selector, where there is one, and else with the head of its operator
abbrev pub BeginsWith : PlainOp → Option (RcStr Global) → Expression → Type 0
BeginsWith op (Some selector) head = rc_str_bytes selector ≡ spelled head
BeginsWith op None head = head ≡ operator_head op

-- the same of what has a label; what is no application begins with nothing of its own
abbrev pub IsHead : PlainLabel → Option (RcStr Global) → Expression → Type 0
IsHead (ApplicationLabel op) selector head = BeginsWith op selector head
IsHead l selector head = Unit {0}
