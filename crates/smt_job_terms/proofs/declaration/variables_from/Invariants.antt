use Rattle.std.proofs.Common.{drop}
use Rattle.smt_job_terms.proofs.DeclaredLists.{DeclaringVariables}
use Rattle.smt_job_terms.proofs.declaration.variables_from.Given as goal

abbrev pub invariant-loop-item : goal.invariant-loop-item
invariant-loop-item l = DeclaringVariables l.variables (drop l.item-index l.items) l.items
