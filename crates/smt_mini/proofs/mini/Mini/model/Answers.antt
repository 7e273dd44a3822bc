use Rattle.std.proofs.Common.{ap, ◌∙◌, map, subst}
use Rattle.std.specs.Rc.{rc_str_bytes}
use Rattle.law_verdicts.specs.Machine.{model_text}
use Rattle.smt_mini.specs.Stands.{IsShown}
use Rattle.smt_mini.specs.Tables.{table_of}
use Rattle.smt_mini.proofs.Checking.{model_shown}
use Rattle.smt_mini.proofs.Leveled.{stands_fits}
use Rattle.smt_mini.proofs.mini.Mini.model.Goals as goal

pub returns-in_ok-model_text-in-Some-clause-answered : goal.returns-in_ok-model_text-in-Some-clause-answered
returns-in_ok-model_text-in-Some-clause-answered c s was h k =
    model_shown s was (table_of c.args.self.now.levels.tables) c.in-Some.truths (rc_str_bytes c.in_ok-model_text-in-Some.field-0) (stands_fits c.args.self.now.levels s h) (subst (λ o. IsShown o was s) c.in-Some.is k)
    (c.in_ok-model_text-in-Some.ensures ∙ ap (λ ns. model_text (map rc_str_bytes ns) c.as_slice-in-Some.result.now) c.as_slice.ensures.value ∙ ap (model_text (map rc_str_bytes c.args.self.now.levels.tables.constants.items)) c.as_slice-in-Some.ensures.value)
