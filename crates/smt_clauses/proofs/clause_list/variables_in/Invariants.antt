use Rattle.std.proofs.Common.{◌≡◌, take}
use Rattle.smt_clauses.specs.Variables.{count_in}
use Rattle.smt_clauses.proofs.clause_list.variables_in.Given as goal

abbrev pub invariant-loop-literal : goal.invariant-loop-literal
invariant-loop-literal l = l.count ≡ count_in (take l.literal-index l.clause)
