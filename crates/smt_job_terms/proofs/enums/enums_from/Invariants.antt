use Rattle.std.proofs.Common.{drop}
use Rattle.smt_job_terms.proofs.EnumsEntered.{EnteringEnums}
use Rattle.smt_job_terms.proofs.enums.enums_from.Given as goal

abbrev pub invariant-loop-item : goal.invariant-loop-item
invariant-loop-item l = EnteringEnums l.table (drop l.item-index l.items) l.items
