use Rattle.std.specs.Rc.{rc_str_bytes}
use Rattle.smt_term.specs.View.{plain_type}
use Rattle.smt_job_terms.specs.DeclarationView.{HasVariables}
use Rattle.smt_job_terms.proofs.Declaring.{declares_next}
use Rattle.smt_job_terms.proofs.declaration.Variables.declare.Goals as goal

pub returns : goal.returns
returns c vs has =
    declares_next (HasVariables c.enter.new.self) vs (rc_str_bytes c.in_ok-id.id.now, plain_type c.in_ok-id.ty) _ c.enter.result (c.in_ok-id.ensures.stated vs has) (c.enter.ensures.entered vs has (c.in_ok-id.ensures.undeclared vs has)) c.enter.ensures.refusal
