use Rattle.std.proofs.Common.{drop, map}
use Rattle.law_texts.specs.Parts.{pair_in}
use Rattle.smt_eval.specs.WrittenView.{plain_pair}
use Rattle.smt_eval.proofs.InputReading.{ReadingEach}
use Rattle.smt_eval.proofs.written.pairs_all.Given as goal

abbrev pub invariant-loop-entry : goal.invariant-loop-entry
invariant-loop-entry l = ReadingEach pair_in (map plain_pair l.found.items) (drop l.entry-index l.entries) l.entries
