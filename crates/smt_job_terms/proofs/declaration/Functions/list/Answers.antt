use Rattle.std.proofs.Common.{◌∷◌, [], ◌++◌, ap, sym, ◌∙◌, rules}
use Rattle.std.specs.Rc.{rc_str_bytes}
use Rattle.smt_term.specs.View.{plain_function}
use Rattle.smt_job_terms.specs.DeclarationView.{plain_declared_function}
use Rattle.smt_job_terms.proofs.Declaring.{declared_again}
use Rattle.smt_job_terms.proofs.declaration.Functions.list.Goals as goal

pub returns-in_ok-push-clause-listed : goal.returns-in_ok-push-clause-listed
returns-in_ok-push-clause-listed c fs has = record {
  listed = c.in_ok-push.ensures.ok ∙ ap (λ ds. ds ++ plain_declared_function c.args.function ∷ []) has.listed;
  found = λ id. has.found id ∙ sym (declared_again (λ f. plain_function f.now.value) c.function_of.result fs (rc_str_bytes c.args.function.id) (plain_function c.args.function) (c.function_of.ensures fs has) (search rules) (rc_str_bytes id));
}
