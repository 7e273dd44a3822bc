use Rattle.std.proofs.Common.{drop, map}
use Rattle.law_assignments.specs.Written.{table_written}
use Rattle.smt_eval.specs.WrittenView.{plain_written_table}
use Rattle.smt_eval.proofs.InputReading.{ReadingEach}
use Rattle.smt_eval.proofs.written.tables_all.Given as goal

abbrev pub invariant-loop-entry : goal.invariant-loop-entry
invariant-loop-entry l = ReadingEach table_written (map plain_written_table l.found.items) (drop l.entry-index l.entries) l.entries
