use Rattle.std.proofs.Common.{◌∷◌, [], ◌++◌, option_map, ap, sym, ◌∙◌}
use Rattle.std.proofs.lemmas.Map.Text.{is_eq-slice_cmp}
use Rattle.std.specs.Rc.{rc_str_bytes}
use Rattle.std.specs.declared.rc.Rc.{Rc}
use Rattle.std.specs.declared.alloc.Global.{Global}
use Rattle.law_terms.specs.Plain.{PlainFunction}
use Rattle.smt_term.specs.View.{plain_function}
use Rattle.smt_term.specs.declared.function.Uuf.{Uuf}
use Rattle.smt_job_terms.proofs.Declaring.{declared_after}
use Rattle.smt_job_terms.specs.DeclarationView.{plain_declared_function}
use Rattle.smt_job_terms.proofs.declaration.Functions.enter.Goals as goal

abbrev shared : Rc Uuf Global → PlainFunction
shared f = plain_function f.value

pub returns-clause-entered : goal.returns-clause-entered
returns-clause-entered c fs has absent = record {
  listed = c.in_ok-push.ensures.ok ∙ ap (λ ds. ds ++ plain_declared_function c.args.function ∷ []) has.listed;
  found = λ id. ap (option_map shared) (c.in_ok-insert.ensures.updates.0 id) ∙ declared_after shared _ c.in_ok-clone.field-0 id _ c.in_ok-new.field-0 _ _ fs (sym (is_eq-slice_cmp (rc_str_bytes c.in_ok-clone.field-0) (rc_str_bytes id))) c.in_ok-clone.ensures.cases (ap plain_function c.in_ok-new.ensures.ok ∙ c.in_ok-share.ensures) absent (has.found id);
}
