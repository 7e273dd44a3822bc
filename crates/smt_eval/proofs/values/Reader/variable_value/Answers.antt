use Rattle.std.proofs.Common.{◌≡◌, Some, false, bytes_eq, ◌∙◌}
use Rattle.std.specs.Map.{lookup}
use Rattle.std.specs.Prelude.{is_some}
use Rattle.std.specs.Rc.{rc_str_bytes}
use Rattle.law_assignments.specs.Entries.{value_of, assigned_variable}
use Rattle.law_assignments.specs.Outcomes.{UnknownEntry}
use Rattle.law_jobs.specs.Declarations.{declared}
use Rattle.smt_sexpr.specs.View.{plain}
use Rattle.smt_term.specs.View.{plain_term, plain_type}
use Rattle.smt_eval.specs.AssignmentView.{plain_assignment}
use Rattle.smt_eval.proofs.Entered.{found_so, stated_so, value_fault}
use Rattle.smt_eval.proofs.InputReading.{read_on}
use Rattle.smt_eval.proofs.values.Reader.variable_value.Goals as goal

pub returns : goal.returns
returns c ds reads =
    let id = rc_str_bytes c.args.id.now in
    let e = plain c.args.value.now in
    let given = (plain_assignment c.args.given.now).variables in
    let ty = plain_type c.in-Some.ty.now in
    let found : Some ty ≡ declared ds.variables id = c.in-Some.ensures ds.variables reads.declares.variables in
    let once : is_some (lookup (bytes_eq id) given) ≡ false = found_so _ c.variable.result _ c.is_some.result c.variable.ensures c.is_some.ensures ∙ c.if-is_some.false in
    read_on plain_term (λ term. (id, plain_term term)) c.value.result (value_of ds id ty e) (assigned_variable ds given (id, e)) (c.value.ensures ds reads)
    (value_fault (UnknownEntry id) (declared ds.variables id) (λ t. lookup (bytes_eq id) given) id (λ t n. value_of ds n t e) (λ t n v. (n, v)) ty found once)
    (λ x h. stated_so (UnknownEntry id) (declared ds.variables id) (λ t. lookup (bytes_eq id) given) id (λ t n. value_of ds n t e) (λ t n v. (n, v)) ty found once (plain_term x) h)
