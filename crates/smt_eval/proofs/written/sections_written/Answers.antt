use Rattle.std.proofs.Common.{refl, ap, rules}
use Rattle.law_assignments.specs.Outcomes.{FormlessInput}
use Rattle.law_texts.specs.Outcomes.{demanded}
use Rattle.smt_eval.proofs.InputReading.{passes_on}
use Rattle.smt_eval.proofs.WrittenShapes.{all_sections, few_sections, many_sections, no_functions, no_gets, no_selectors}
use Rattle.smt_eval.proofs.written.sections_written.Goals as goal
use Rattle.smt_eval.proofs.written.sections_written.Goals.{in_default-via-then-inside-lt5, in_default-via-else-inside-lt5+else-inside-lt6}

pub returns-in_default : goal.returns-in_default
returns-in_default c = elim c.in_default.branch [
  | in_default-via-then-inside-lt5 w ↦ (FormlessInput, refl, ap (demanded FormlessInput) (few_sections c.args.inside.now (search rules)))
  | in_default-via-else-inside-lt5+else-inside-lt6 w ↦ (FormlessInput, refl, ap (demanded FormlessInput) (many_sections c.args.inside.now (search rules)))
]

pub returns-in_err-functions : goal.returns-in_err-functions
returns-in_err-functions c =
    passes_on _ c.from_residual-in_err-functions.result c.in_err-functions.field-0.0 _ _ c.from_residual-in_err-functions.ensures.1 c.in_err-functions.ensures
    (no_functions c.args.inside.now c.job-item.result c.variables-item.result c.functions-item.result c.gets-item.result c.selectors-item.result c.in-len5.len_at_least c.in-len5.len_below c.job-item.is c.variables-item.is c.functions-item.is c.gets-item.is c.selectors-item.is _ c.in_ok-variables.ensures)

pub returns-in_err-gets : goal.returns-in_err-gets
returns-in_err-gets c =
    passes_on _ c.from_residual-in_err-gets.result c.in_err-gets.field-0.0 _ _ c.from_residual-in_err-gets.ensures.1 c.in_err-gets.ensures
    (no_gets c.args.inside.now c.job-item.result c.variables-item.result c.functions-item.result c.gets-item.result c.selectors-item.result c.in-len5.len_at_least c.in-len5.len_below c.job-item.is c.variables-item.is c.functions-item.is c.gets-item.is c.selectors-item.is _ c.in_ok-variables.ensures _ c.in_ok-functions.ensures)

pub returns-in_err-selectors : goal.returns-in_err-selectors
returns-in_err-selectors c =
    passes_on _ c.from_residual-in_err-selectors.result c.in_err-selectors.field-0.0 _ _ c.from_residual-in_err-selectors.ensures.1 c.in_err-selectors.ensures
    (no_selectors c.args.inside.now c.job-item.result c.variables-item.result c.functions-item.result c.gets-item.result c.selectors-item.result c.in-len5.len_at_least c.in-len5.len_below c.job-item.is c.variables-item.is c.functions-item.is c.gets-item.is c.selectors-item.is _ c.in_ok-variables.ensures _ c.in_ok-functions.ensures _ c.in_ok-gets.ensures)

pub returns : goal.returns
returns c =
    all_sections c.args.inside.now c.job-item.result c.variables-item.result c.functions-item.result c.gets-item.result c.selectors-item.result c.in-len5.len_at_least c.in-len5.len_below c.job-item.is c.variables-item.is c.functions-item.is c.gets-item.is c.selectors-item.is _ c.in_ok-variables.ensures _ c.in_ok-functions.ensures _ c.in_ok-gets.ensures _ c.in_ok-selectors.ensures
