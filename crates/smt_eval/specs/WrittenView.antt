-- What the form of an input says that the program found: names and types, and expressions in place of values.
use Rattle.std.specs.Prelude.{ℕ, List, map}
use Rattle.std.specs.Borrow.{Bor}
use Rattle.std.specs.Rc.{rc_str_bytes}
use Rattle.std.specs.declared.alloc.Global.{Global}
use Rattle.std.specs.declared.rc.RcStr.{RcStr}
use Rattle.law_assignments.specs.Written.{WrittenInput as StatedInput, WrittenTable as StatedTable}
use Rattle.law_terms.specs.Plain.{PlainType}
use Rattle.law_texts.specs.Reading.{Expression}
use Rattle.smt_sexpr.specs.View.{plain}
use Rattle.smt_sexpr.specs.declared.expression.SExpr.{SExpr}
use Rattle.smt_term.specs.View.{plain_type}
use Rattle.smt_term.specs.declared.types.TermType.{TermType}
use Rattle.smt_eval.specs.declared.written.WrittenInput.{WrittenInput}
use Rattle.smt_eval.specs.declared.written.WrittenTable.{WrittenTable}

-- a variable's id, and the expression of its value
abbrev pub plain_named : Bor (RcStr Global) × Bor SExpr → List ℕ × Expression
plain_named v = (rc_str_bytes v.0.now, plain v.1.now)

-- two expressions
abbrev pub plain_pair : Bor SExpr × Bor SExpr → Expression × Expression
plain_pair p = (plain p.0.now, plain p.1.now)

-- an inner type, and the expression of what `option.get` of none gives there
abbrev pub plain_typed : TermType × Bor SExpr → PlainType × Expression
plain_typed g = (plain_type g.0, plain g.1.now)

-- a table as it is written
abbrev pub plain_written_table : WrittenTable → StatedTable
plain_written_table w =
    record { name = rc_str_bytes w.name.now; elsewhere = plain w.elsewhere.now; entries = map plain_pair w.entries.items }

-- an input as it is written
abbrev pub plain_written : WrittenInput → StatedInput
plain_written w = record {
  job = plain w.job.now;
  variables = map plain_named w.variables.items;
  functions = map plain_written_table w.functions.items;
  gets = map plain_typed w.gets.items;
  selectors = map plain_written_table w.selectors.items;
}
