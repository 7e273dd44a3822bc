use Rattle.std.proofs.Common.{map, take}
use Rattle.smt_job_terms.specs.DeclarationView.{HasFunctions, plain_declared_function}
use Rattle.smt_job_terms.proofs.declaration.Functions.of.Given as goal

abbrev pub invariant-loop-function : goal.invariant-loop-function
invariant-loop-function l = HasFunctions l.functions (map plain_declared_function (take l.function-index l.function-items))
