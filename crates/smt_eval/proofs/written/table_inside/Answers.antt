use Rattle.std.proofs.Common.{refl, ap}
use Rattle.law_assignments.specs.Outcomes.{FormlessInput}
use Rattle.law_texts.specs.Outcomes.{demanded}
use Rattle.smt_eval.proofs.WrittenShapes.{few_in_table}
use Rattle.smt_eval.proofs.written.table_inside.Goals as goal

pub returns-in_default : goal.returns-in_default
returns-in_default c = (FormlessInput, refl, ap (demanded FormlessInput) (few_in_table c.args.inside.now c.in_default.len_below))
