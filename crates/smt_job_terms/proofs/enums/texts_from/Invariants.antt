use Rattle.std.proofs.Common.{drop}
use Rattle.smt_job_terms.proofs.EnumsEntered.{ReadingTexts}
use Rattle.smt_job_terms.proofs.enums.texts_from.Given as goal

abbrev pub invariant-loop-item : goal.invariant-loop-item
invariant-loop-item l = ReadingTexts l.texts.items (drop l.item-index l.items) l.items
