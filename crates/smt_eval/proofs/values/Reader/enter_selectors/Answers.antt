use Rattle.std.proofs.Common.{◌≡◌, ap}
use Rattle.law_assignments.specs.Entries.{selector_of}
use Rattle.smt_eval.specs.AssignmentView.{plain_assignment, plain_selector}
use Rattle.smt_eval.specs.WrittenView.{plain_written_table}
use Rattle.smt_eval.proofs.Entered.{more_selectors}
use Rattle.smt_eval.proofs.InputReading.{comes_not, entry_fault, one_more_entry}
use Rattle.smt_eval.proofs.values.Reader.enter_selectors.Goals as goal

pub returns-in_err-op : goal.returns-in_err-op
returns-in_err-op c ds reads =
    comes_not (λ es. plain_assignment c.loop-written.given ≡ record (plain_assignment c.args.given.now) { selectors = es }) c.from_residual.result c.in_err-op.field-0.0 _ _ c.from_residual.ensures.1 (c.in_err-op.ensures ds reads)
    (entry_fault (selector_of ds) plain_written_table (plain_assignment c.args.given.now).selectors (plain_assignment c.loop-written.given).selectors c.args.entries.now c.loop-written.written-index c.written-item.result (c.loop-written.invariant.given ds reads) c.loop-written-test.true c.written-item.is)

pub loop-written-preserved : goal.loop-written-preserved
loop-written-preserved c =
    let is = c.in_ok-give_selector.ensures.ok in
    record {
      same = more_selectors (plain_assignment c.args.given.now) (plain_assignment c.loop-written.given) (plain_assignment c.give_selector.new.self) _ c.loop-written.invariant.same is;
      given = λ ds reads. one_more_entry (selector_of ds) plain_written_table (plain_assignment c.args.given.now).selectors (plain_assignment c.loop-written.given).selectors c.args.entries.now c.loop-written.written-index c.written-item.result (c.loop-written.invariant.given ds reads) c.loop-written-test.true c.written-item.is (plain_selector (c.in_ok-op.op, c.in_ok-op.table)) (plain_assignment c.give_selector.new.self).selectors
          (c.in_ok-op.ensures ds reads) (ap (λ a. a.selectors) is);
    }
