use Rattle.std.proofs.Common.{bytes_eq}
use Rattle.std.proofs.lemmas.Map.Text.{is_eq-slice_cmp}
use Rattle.std.specs.Rc.{rc_str_bytes}
use Rattle.smt_term.specs.View.{plain_term}
use Rattle.smt_eval.proofs.Entries.{finds_said}
use Rattle.smt_eval.proofs.assignment.Assignment.variable.Goals as goal

pub returns : goal.returns
returns c =
    finds_said rc_str_bytes plain_term _ (bytes_eq (rc_str_bytes c.args.id.now)) (λ id. is_eq-slice_cmp (rc_str_bytes c.args.id.now) (rc_str_bytes id)) c.args.self.now.variables.items.items c.find.result c.find.ensures
