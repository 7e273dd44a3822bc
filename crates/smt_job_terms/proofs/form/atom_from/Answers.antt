use Rattle.std.proofs.Common.{Ok, sym, ap, ◌∙◌}
use Rattle.smt_job_terms.proofs.FormsRead.{string_stated}
use Rattle.smt_job_terms.proofs.form.atom_from.Goals as goal

pub returns-in_ok-clone-in-String : goal.returns-in_ok-clone-in-String
returns-in_ok-clone-in-String c = string_stated c.args.expression.now c.in-String.text c.in-String.is _ c.in_ok-clone-in-String.ensures.cases ∙ ap Ok (sym c.from.ensures)
