use Rattle.std.proofs.Common.{◌≡◌, Some, true, false, bytes_eq, ap, ◌∙◌, subst}
use Rattle.std.specs.Map.{lookup}
use Rattle.std.specs.Prelude.{is_some}
use Rattle.law_assignments.specs.Entries.{assigned_function, table_of}
use Rattle.law_assignments.specs.Outcomes.{UnknownEntry}
use Rattle.law_jobs.specs.Declarations.{declared}
use Rattle.law_terms.specs.Plain.{PlainFunction, PlainType}
use Rattle.smt_term.specs.Functions.{plain_definition}
use Rattle.smt_term.specs.View.{plain_function, plain_type}
use Rattle.smt_term.specs.declared.function.Uuf.{Uuf}
use Rattle.smt_eval.specs.AssignmentView.{plain_assignment}
use Rattle.smt_eval.specs.InputRefused.{IsInputReadAs}
use Rattle.smt_eval.specs.WrittenView.{plain_written_table}
use Rattle.smt_eval.proofs.Entered.{found_so, stated_so, value_fault}
use Rattle.smt_eval.proofs.InputReading.{read_on}
use Rattle.smt_eval.proofs.values.Reader.function_table.Goals as goal

pub returns : goal.returns
returns c ds reads =
    let w = plain_written_table c.args.written.now in
    let given = (plain_assignment c.args.given.now).functions in
    let f = plain_function c.in-Some.function.now.value in
    let found : Some f ≡ declared ds.functions w.name = c.in-Some.ensures ds.functions reads.declares.functions in
    let once : is_some (lookup (bytes_eq w.name) given) ≡ false = found_so _ c.function.result _ c.is_some.result c.function.ensures c.is_some.ensures ∙ c.if-is_some.false in
    let whole =
    subst (λ (t : PlainType). IsInputReadAs plain_definition c.table.result (table_of ds t f.output (λ k. true) w)) (ap (λ (u : Uuf). plain_type u.arg) c.deref.ensures)
    (subst (λ (t : PlainType). IsInputReadAs plain_definition c.table.result (table_of ds (plain_type c.deref.result.now.arg) t (λ k. true) w)) (ap (λ (u : Uuf). plain_type u.out) c.deref-2.ensures) (c.table.ensures ds reads)) in
    read_on plain_definition (λ table. (w.name, plain_definition table)) c.table.result (table_of ds f.argument f.output (λ k. true) w) (assigned_function ds given w) whole
    (value_fault (UnknownEntry w.name) (declared ds.functions w.name) (λ g. lookup (bytes_eq w.name) given) w.name (λ (g : PlainFunction) n. table_of ds g.argument g.output (λ k. true) w) (λ g n d. (n, d)) f found once)
    (λ x h. stated_so (UnknownEntry w.name) (declared ds.functions w.name) (λ g. lookup (bytes_eq w.name) given) w.name (λ (g : PlainFunction) n. table_of ds g.argument g.output (λ k. true) w) (λ g n d. (n, d)) f found once (plain_definition x) h)
