use Rattle.std.proofs.Common.{drop}
use Rattle.smt_job_terms.proofs.TypesRead.{ReadingAttributes}
use Rattle.smt_job_terms.proofs.types.+types.Given as goal

abbrev pub invariant-attributes_from-loop-item : goal.invariant-attributes_from-loop-item
invariant-attributes_from-loop-item l = ReadingAttributes l.pairs.items (drop l.item-index l.items) l.items
