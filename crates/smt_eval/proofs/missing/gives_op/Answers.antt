use Rattle.std.proofs.Common.{◌≡◌, sym, ap, subst}
use Rattle.law_assignments.specs.Covered.{gives_op}
use Rattle.law_terms.specs.Plain.{PlainOp}
use Rattle.smt_term.specs.View.{plain_op, plain_type}
use Rattle.smt_eval.specs.AssignmentView.{plain_assignment}
use Rattle.smt_eval.proofs.missing.gives_op.Goals as goal

pub returns-in-Ext : goal.returns-in-Ext
returns-in-Ext c =
    subst (λ (o : PlainOp). c.gives_extension.result ≡ gives_op (plain_assignment c.args.given.now) o (plain_type c.args.ty.now)) (sym (ap plain_op c.in-Ext.is)) (c.gives_extension.ensures (plain_type c.args.ty.now))
