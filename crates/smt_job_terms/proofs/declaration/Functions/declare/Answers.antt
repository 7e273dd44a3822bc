use Rattle.smt_job_terms.specs.DeclarationView.{HasFunctions, plain_declared_function}
use Rattle.smt_job_terms.proofs.Declaring.{declares_next}
use Rattle.smt_job_terms.proofs.declaration.Functions.declare.Goals as goal

pub returns : goal.returns
returns c fs has =
    declares_next (HasFunctions c.enter.new.self) fs (plain_declared_function c.in_ok-function.function) _ c.enter.result (c.in_ok-function.ensures.stated fs has) (c.enter.ensures.entered fs has (c.in_ok-function.ensures.undeclared fs has)) c.enter.ensures.refusal
