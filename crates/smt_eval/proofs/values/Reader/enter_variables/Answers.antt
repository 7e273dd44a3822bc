use Rattle.std.proofs.Common.{◌≡◌, ◌∷◌, ◌++◌, [], ap, ◌∙◌}
use Rattle.std.specs.Rc.{rc_str_bytes}
use Rattle.law_assignments.specs.Entries.{assigned_variable}
use Rattle.smt_term.specs.View.{plain_term}
use Rattle.smt_eval.specs.AssignmentView.{plain_assignment}
use Rattle.smt_eval.specs.WrittenView.{plain_named}
use Rattle.smt_eval.proofs.Entered.{more_variables}
use Rattle.smt_eval.proofs.InputReading.{comes_not, entry_fault, one_more_entry}
use Rattle.smt_eval.proofs.values.Reader.enter_variables.Goals as goal

pub returns-in_err-value : goal.returns-in_err-value
returns-in_err-value c ds reads =
    comes_not (λ es. plain_assignment c.loop-id.given ≡ record (plain_assignment c.args.given.now) { variables = es }) c.from_residual.result c.in_err-value.field-0.0 _ _ c.from_residual.ensures.1 (c.in_err-value.ensures ds reads)
    (entry_fault (assigned_variable ds) plain_named (plain_assignment c.args.given.now).variables (plain_assignment c.loop-id.given).variables c.args.entries.now c.loop-id.id-index c.loop-id-item.result (c.loop-id.invariant.given ds reads) c.loop-id-test.true c.loop-id-item.is)

pub loop-id-preserved : goal.loop-id-preserved
loop-id-preserved c =
    let is = c.in_ok-give_variable.ensures.ok in
    record {
      same = more_variables (plain_assignment c.args.given.now) (plain_assignment c.loop-id.given) (plain_assignment c.give_variable.new.self) _ c.loop-id.invariant.same is;
      given = λ ds reads. one_more_entry (assigned_variable ds) plain_named (plain_assignment c.args.given.now).variables (plain_assignment c.loop-id.given).variables c.args.entries.now c.loop-id.id-index c.loop-id-item.result (c.loop-id.invariant.given ds reads) c.loop-id-test.true c.loop-id-item.is (rc_str_bytes c.loop-id-item.result.0.now, plain_term c.in_ok-value.value) (plain_assignment c.give_variable.new.self).variables
          (c.in_ok-value.ensures ds reads) (ap (λ a. a.variables) is ∙ ap (λ n. (plain_assignment c.loop-id.given).variables ++ (n, plain_term c.in_ok-value.value) ∷ []) c.in_ok-clone.ensures.cases);
    }
