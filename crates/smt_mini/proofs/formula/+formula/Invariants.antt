use Rattle.std.proofs.Common.{◌≡◌, drop}
use Rattle.law_scripts.specs.Script.{State}
use Rattle.law_verdicts.specs.Fragment.{are_formulas, is_truth_name}
use Rattle.smt_sexpr.specs.View.{plain_list}
use Rattle.smt_mini.specs.Tables.{Fits, table_of}
use Rattle.smt_mini.proofs.formula.+formula.Given as goal

abbrev pub invariant-are_formulas-loop-operand : goal.invariant-are_formulas-loop-operand
invariant-are_formulas-loop-operand l =
    (s : State) → Fits (table_of l.tables) s → are_formulas (is_truth_name s) (plain_list (drop l.operand-index l.operands)) ≡ are_formulas (is_truth_name s) (plain_list l.operands)
