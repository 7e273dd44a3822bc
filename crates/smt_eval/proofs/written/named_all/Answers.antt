use Rattle.std.proofs.Common.{option_map, map, sym, ap, ◌∙◌}
use Rattle.std.proofs.lemmas.List.{map-append}
use Rattle.law_assignments.specs.Outcomes.{FormlessInput}
use Rattle.law_assignments.specs.Written.{variable_written}
use Rattle.law_texts.specs.Outcomes.{demanded}
use Rattle.smt_eval.specs.declared.error.EvalError.TheVariants.{BadForm}
use Rattle.smt_eval.specs.WrittenView.{plain_named}
use Rattle.smt_eval.proofs.InputReading.{absent, formless, one_more, unread}
use Rattle.smt_eval.proofs.written.named_all.Goals as goal

pub returns-in_err-named : goal.returns-in_err-named
returns-in_err-named c =
    let none = absent c.named_in.result c.in_err-named.field-0.0 BadForm c.in_err-named.ensures.value in
    formless _ c.from_residual.result c.in_err-named.field-0.0 _ c.from_residual.ensures.1 none.1
    (ap (demanded FormlessInput) (unread variable_written _ c.args.entries.now c.loop-entry.entry-index c.entry-item.result c.loop-entry.invariant c.loop-entry-test.true c.entry-item.is (sym c.named_in.ensures ∙ ap (option_map plain_named) none.0)))

pub loop-entry-preserved : goal.loop-entry-preserved
loop-entry-preserved c =
    one_more variable_written _ c.args.entries.now c.loop-entry.entry-index c.entry-item.result c.loop-entry.invariant c.loop-entry-test.true c.entry-item.is (plain_named c.in_ok-named.named) _
    (sym c.named_in.ensures ∙ ap (option_map plain_named) c.in_ok-named.ensures.ok_part) (ap (map plain_named) c.in_ok-push.ensures.items ∙ map-append plain_named _ _)
