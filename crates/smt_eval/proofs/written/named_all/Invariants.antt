use Rattle.std.proofs.Common.{drop, map}
use Rattle.law_assignments.specs.Written.{variable_written}
use Rattle.smt_eval.specs.WrittenView.{plain_named}
use Rattle.smt_eval.proofs.InputReading.{ReadingEach}
use Rattle.smt_eval.proofs.written.named_all.Given as goal

abbrev pub invariant-loop-entry : goal.invariant-loop-entry
invariant-loop-entry l = ReadingEach variable_written (map plain_named l.found.items) (drop l.entry-index l.entries) l.entries
