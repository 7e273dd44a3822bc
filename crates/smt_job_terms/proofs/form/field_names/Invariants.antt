use Rattle.std.proofs.Common.{drop}
use Rattle.smt_job_terms.proofs.FormsRead.{ReadingNames}
use Rattle.smt_job_terms.proofs.form.field_names.Given as goal

abbrev pub invariant-loop-item : goal.invariant-loop-item
invariant-loop-item l = ReadingNames l.names.items (drop l.item-index l.items) l.items
