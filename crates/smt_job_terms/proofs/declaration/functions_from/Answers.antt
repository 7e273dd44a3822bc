use Rattle.law_jobs.specs.Declarations.{declared_function}
use Rattle.smt_job_terms.specs.DeclarationView.{HasFunctions}
use Rattle.smt_job_terms.proofs.DeclaredLists.{functions_in, functions_listed}
use Rattle.smt_job_terms.proofs.Declaring.{next_declared}
use Rattle.smt_job_terms.proofs.declaration.functions_from.Goals as goal

pub loop-item-preserved : goal.loop-item-preserved
loop-item-preserved c =
    next_declared HasFunctions functions_in functions_listed declared_function _ c.args.items.now c.loop-item.item-index c.item-item.result c.loop-item.invariant c.loop-item-test.true c.item-item.is c.declare.new.self (c.in_ok-declare.ensures _ c.loop-item.invariant.declares)
