use Rattle.std.proofs.Common.{◌∷◌, [], ◌++◌, ap, sym, ◌∙◌, rules}
use Rattle.std.specs.Prelude.{is_some}
use Rattle.std.specs.Rc.{rc_str_bytes}
use Rattle.smt_term.specs.View.{plain_type}
use Rattle.smt_job_terms.proofs.Places.{placed_again}
use Rattle.smt_job_terms.proofs.declaration.Variables.list.Goals as goal

pub returns-in_ok-push-clause-listed : goal.returns-in_ok-push-clause-listed
returns-in_ok-push-clause-listed c vs has = record {
  listed = c.in_ok-push.ensures.ok ∙ (λ i. has.listed i ++ (c.in_ok-clone.ensures.cases i, plain_type c.args.ty) ∷ []);
  placed = λ id. has.placed id ∙ sym (placed_again vs (rc_str_bytes c.args.id.now) (plain_type c.args.ty) id (ap is_some (sym (c.type_of.ensures vs has)) ∙ search rules));
}
