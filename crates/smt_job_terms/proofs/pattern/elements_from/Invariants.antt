use Rattle.std.proofs.Common.{drop}
use Rattle.smt_job_terms.proofs.PatternsRead.{ReadingParts}
use Rattle.smt_job_terms.proofs.pattern.elements_from.Given as goal

abbrev pub invariant-loop-item : goal.invariant-loop-item
invariant-loop-item l = ReadingParts l.elems.items (drop l.item-index l.items) l.items
