use Rattle.std.proofs.Common.{option_map, map, sym, ap, ◌∙◌}
use Rattle.std.proofs.lemmas.List.{map-append}
use Rattle.law_assignments.specs.Outcomes.{FormlessInput}
use Rattle.law_texts.specs.Parts.{pair_in}
use Rattle.law_texts.specs.Outcomes.{demanded}
use Rattle.smt_eval.specs.declared.error.EvalError.TheVariants.{BadForm}
use Rattle.smt_eval.specs.WrittenView.{plain_pair}
use Rattle.smt_eval.proofs.InputReading.{absent, formless, one_more, unread}
use Rattle.smt_eval.proofs.written.pairs_all.Goals as goal

pub returns-in_err-pair : goal.returns-in_err-pair
returns-in_err-pair c =
    let none = absent c.pair_in.result c.in_err-pair.field-0.0 BadForm c.in_err-pair.ensures.value in
    formless _ c.from_residual.result c.in_err-pair.field-0.0 _ c.from_residual.ensures.1 none.1
    (ap (demanded FormlessInput) (unread pair_in _ c.args.entries.now c.loop-entry.entry-index c.entry-item.result c.loop-entry.invariant c.loop-entry-test.true c.entry-item.is (sym c.pair_in.ensures ∙ ap (option_map plain_pair) none.0)))

pub loop-entry-preserved : goal.loop-entry-preserved
loop-entry-preserved c =
    one_more pair_in _ c.args.entries.now c.loop-entry.entry-index c.entry-item.result c.loop-entry.invariant c.loop-entry-test.true c.entry-item.is (plain_pair c.in_ok-pair.pair) _
    (sym c.pair_in.ensures ∙ ap (option_map plain_pair) c.in_ok-pair.ensures.ok_part) (ap (map plain_pair) c.in_ok-push.ensures.items ∙ map-append plain_pair _ _)
