use Rattle.std.proofs.Common.{drop, map}
use Rattle.law_assignments.specs.Written.{get_written}
use Rattle.smt_eval.specs.WrittenView.{plain_typed}
use Rattle.smt_eval.proofs.InputReading.{ReadingEach}
use Rattle.smt_eval.proofs.written.typed_all.Given as goal

abbrev pub invariant-loop-entry : goal.invariant-loop-entry
invariant-loop-entry l = ReadingEach get_written (map plain_typed l.found.items) (drop l.entry-index l.entries) l.entries
