use Rattle.std.proofs.Common.{◌≡◌, drop, take, true}
use Rattle.law_scripts.specs.Script.{State}
use Rattle.law_verdicts.specs.Fragment.{are_formulas, is_truth_name}
use Rattle.smt_mini.proofs.Building.{Building}
use Rattle.smt_sexpr.specs.View.{plain_list}
use Rattle.smt_mini.specs.Tables.{Fits, table_of}
use Rattle.smt_mini.proofs.formula.+build.Given as goal

abbrev pub invariant-build_all-loop-operand : goal.invariant-build_all-loop-operand
invariant-build_all-loop-operand l =
    (s : State) → Fits (table_of l.initial.tables) s → are_formulas (is_truth_name s) (plain_list l.operands) ≡ true
    → Building (table_of l.initial.tables) (table_of l.tables) s (take l.operand-index l.operands) (drop l.operand-index l.operands) l.operands l.parts.items
