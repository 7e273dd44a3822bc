use Rattle.std.proofs.Common.{map, ap, ◌∙◌}
use Rattle.std.proofs.lemmas.List.{map-append}
use Rattle.law_assignments.specs.Written.{table_written}
use Rattle.smt_eval.specs.WrittenView.{plain_written_table}
use Rattle.smt_eval.proofs.InputReading.{one_more, passes_on, there, unread_fault}
use Rattle.smt_eval.proofs.written.tables_all.Goals as goal

pub returns-in_err-table : goal.returns-in_err-table
returns-in_err-table c =
    passes_on _ c.from_residual.result c.in_err-table.field-0.0 _ _ c.from_residual.ensures.1 c.in_err-table.ensures
    (unread_fault table_written _ c.args.entries.now c.loop-entry.entry-index c.entry-item.result c.loop-entry.invariant c.loop-entry-test.true c.entry-item.is)

pub loop-entry-preserved : goal.loop-entry-preserved
loop-entry-preserved c =
    one_more table_written _ c.args.entries.now c.loop-entry.entry-index c.entry-item.result c.loop-entry.invariant c.loop-entry-test.true c.entry-item.is (plain_written_table c.in_ok-table.table) _
    (there _ _ c.in_ok-table.ensures) (ap (map plain_written_table) c.in_ok-push.ensures.items ∙ map-append plain_written_table _ _)
