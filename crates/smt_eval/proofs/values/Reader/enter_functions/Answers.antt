use Rattle.std.proofs.Common.{◌≡◌, ◌∷◌, ◌++◌, [], ap, ◌∙◌}
use Rattle.std.specs.Rc.{rc_str_bytes}
use Rattle.law_assignments.specs.Entries.{assigned_function}
use Rattle.smt_term.specs.Functions.{plain_definition}
use Rattle.smt_eval.specs.AssignmentView.{plain_assignment}
use Rattle.smt_eval.specs.WrittenView.{plain_written_table}
use Rattle.smt_eval.proofs.Entered.{more_functions}
use Rattle.smt_eval.proofs.InputReading.{comes_not, entry_fault, one_more_entry}
use Rattle.smt_eval.proofs.values.Reader.enter_functions.Goals as goal

pub returns-in_err-table : goal.returns-in_err-table
returns-in_err-table c ds reads =
    comes_not (λ es. plain_assignment c.loop-written.given ≡ record (plain_assignment c.args.given.now) { functions = es }) c.from_residual.result c.in_err-table.field-0.0 _ _ c.from_residual.ensures.1 (c.in_err-table.ensures ds reads)
    (entry_fault (assigned_function ds) plain_written_table (plain_assignment c.args.given.now).functions (plain_assignment c.loop-written.given).functions c.args.entries.now c.loop-written.written-index c.written-item.result (c.loop-written.invariant.given ds reads) c.loop-written-test.true c.written-item.is)

pub loop-written-preserved : goal.loop-written-preserved
loop-written-preserved c =
    let is = c.in_ok-give_function.ensures.ok in
    record {
      same = more_functions (plain_assignment c.args.given.now) (plain_assignment c.loop-written.given) (plain_assignment c.give_function.new.self) _ c.loop-written.invariant.same is;
      given = λ ds reads. one_more_entry (assigned_function ds) plain_written_table (plain_assignment c.args.given.now).functions (plain_assignment c.loop-written.given).functions c.args.entries.now c.loop-written.written-index c.written-item.result (c.loop-written.invariant.given ds reads) c.loop-written-test.true c.written-item.is (rc_str_bytes c.written-item.result.name.now, plain_definition c.in_ok-table.table) (plain_assignment c.give_function.new.self).functions
          (c.in_ok-table.ensures ds reads) (ap (λ a. a.functions) is ∙ ap (λ n. (plain_assignment c.loop-written.given).functions ++ (n, plain_definition c.in_ok-table.table) ∷ []) c.in_ok-clone.ensures.cases);
    }
