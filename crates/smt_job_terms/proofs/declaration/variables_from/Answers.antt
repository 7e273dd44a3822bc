use Rattle.law_jobs.specs.Declarations.{declared_variable}
use Rattle.smt_job_terms.specs.DeclarationView.{HasVariables}
use Rattle.smt_job_terms.proofs.DeclaredLists.{variables_in, variables_listed}
use Rattle.smt_job_terms.proofs.Declaring.{next_declared}
use Rattle.smt_job_terms.proofs.declaration.variables_from.Goals as goal

pub loop-item-preserved : goal.loop-item-preserved
loop-item-preserved c =
    next_declared HasVariables variables_in variables_listed declared_variable _ c.args.items.now c.loop-item.item-index c.item-item.result c.loop-item.invariant c.loop-item-test.true c.item-item.is c.declare.new.self (c.in_ok-declare.ensures _ c.loop-item.invariant.declares)
