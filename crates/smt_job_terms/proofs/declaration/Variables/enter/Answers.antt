use Rattle.std.proofs.Common.{◌∷◌, [], ◌++◌, Some, bytes_eq, cond, length, ap, ◌∙◌}
use Rattle.std.specs.Rc.{rc_str_bytes}
use Rattle.smt_term.specs.View.{plain_type}
use Rattle.smt_job_terms.proofs.LookUps.{bytes_entered}
use Rattle.smt_job_terms.proofs.Places.{placed_first}
use Rattle.smt_job_terms.proofs.declaration.Variables.enter.Goals as goal

pub returns-clause-entered : goal.returns-clause-entered
returns-clause-entered c vs has absent = record {
  listed = c.in_ok-push.ensures.ok ∙ (λ i. has.listed i ++ (c.in_ok-clone-2.ensures.cases i, plain_type c.args.ty) ∷ []);
  placed = λ id.
      bytes_entered c.args.self.now.places c.insert.new.self c.in_ok-clone.field-0 (Some c.len.result) c.in_ok-insert.ensures.updates id
      ∙ (λ i. cond (bytes_eq (c.in_ok-clone.ensures.cases i) id) (Some ((c.len.ensures ∙ ap length has.listed) i)) (has.placed id i))
      ∙ placed_first vs (rc_str_bytes c.args.id.now) (plain_type c.args.ty) id absent;
}
