use Rattle.std.proofs.Common.{drop}
use Rattle.smt_job_terms.proofs.DeclaredLists.{DeclaringFunctions}
use Rattle.smt_job_terms.proofs.declaration.functions_from.Given as goal

abbrev pub invariant-loop-item : goal.invariant-loop-item
invariant-loop-item l = DeclaringFunctions l.functions (drop l.item-index l.items) l.items
