use Rattle.std.proofs.Common.{map, take}
use Rattle.smt_job_terms.specs.DeclarationView.{HasVariables, plain_declaration}
use Rattle.smt_job_terms.proofs.declaration.Variables.of.Given as goal

abbrev pub invariant-loop-var : goal.invariant-loop-var
invariant-loop-var l = HasVariables l.variables (map plain_declaration (take l.var-index l.var-items))
