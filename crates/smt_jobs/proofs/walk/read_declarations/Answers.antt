use Rattle.law_jobs.specs.Jobs.{declared_first}
use Rattle.smt_job_terms.specs.DeclarationView.{stated_in}
use Rattle.smt_jobs.specs.Walk.{StandsFirst}
use Rattle.smt_jobs.proofs.Walking.{all_declared, enums_refused, functions_refused, gives_passes, read_none, read_one_more, variables_refused}
use Rattle.smt_jobs.proofs.walk.read_declarations.Goals as goal

pub returns-clause-read : goal.returns-clause-read
returns-clause-read c =
    let one = read_one_more c.args.src.now c.args.src.now c.in_ok-enums.rest.now 511 (read_none c.args.src.now 511) c.in_ok-enums.ensures.read in
    let two = read_one_more c.args.src.now c.in_ok-enums.rest.now c.in_ok-variables.rest.now 511 one c.in_ok-variables.ensures.read in
    read_one_more c.args.src.now c.in_ok-variables.rest.now c.in_ok-functions.rest.now 511 two c.in_ok-functions.ensures.read

pub returns-in_err-enums-clause-stated : goal.returns-in_err-enums-clause-stated
returns-in_err-enums-clause-stated c es end begins =
    gives_passes (StandsFirst stated_in end) c.from_residual.result c.in_err-enums.field-0.0 (declared_first es) _ c.from_residual.ensures.1 (c.in_err-enums.ensures.stated es end begins) (enums_refused es)

pub returns-in_err-variables-clause-stated : goal.returns-in_err-variables-clause-stated
returns-in_err-variables-clause-stated c es end begins =
    let enums = c.in_ok-enums.ensures.stated es end begins in
    gives_passes (StandsFirst stated_in end) c.from_residual-in_err-variables.result c.in_err-variables.field-0.0 (declared_first es) _ c.from_residual-in_err-variables.ensures.1 (c.in_err-variables.ensures.stated enums.0.1 end enums.2.1)
    (variables_refused es enums.0 enums.1)

pub returns-in_err-functions-clause-stated : goal.returns-in_err-functions-clause-stated
returns-in_err-functions-clause-stated c es end begins =
    let enums = c.in_ok-enums.ensures.stated es end begins in
    let variables = c.in_ok-variables.ensures.stated enums.0.1 end enums.2.1 in
    gives_passes (StandsFirst stated_in end) c.from_residual-in_err-functions.result c.in_err-functions.field-0.0 (declared_first es) _ c.from_residual-in_err-functions.ensures.1 (c.in_err-functions.ensures.stated variables.0.1 end variables.2.1)
    (functions_refused es enums.0 enums.1 variables.0 variables.1)

pub returns-clause-stated : goal.returns-clause-stated
returns-clause-stated c es end begins =
    let enums = c.in_ok-enums.ensures.stated es end begins in
    let variables = c.in_ok-variables.ensures.stated enums.0.1 end enums.2.1 in
    let functions = c.in_ok-functions.ensures.stated variables.0.1 end variables.2.1 in (
      (record { enums = enums.0.0; variables = variables.0.0; functions = functions.0.0 }, functions.0.1),
      all_declared es enums.0 enums.1 variables.0 variables.1 functions.0 functions.1,
      ((λ i. record { enums = enums.2.0 i; variables = variables.2.0 i; functions = functions.2.0 i }), functions.2.1),
    )
