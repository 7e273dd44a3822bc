use Rattle.std.proofs.Common.{[], ◌++◌, ◌∙◌, ap, arith, map, refl, rules}
use Rattle.std.proofs.Output.{has_written_append, has_written_of_eq, writes_in_calls_nil}
use Rattle.std.specs.Prelude.{codes}
use Rattle.law_texts.proofs.Joined.{joined_from, joined_from-drop, joined_from-start}
use Rattle.law_texts.specs.LineTexts.{spaced}
use Rattle.smt_sexpr.proofs.PrintedTexts.{next_text, no_text, printed_expression, texts_of_expressions}
use Rattle.smt_sexpr.proofs.printed.+print.Goals as goal

pub put_items-loop-item-init : goal.put_items-loop-item-init
put_items-loop-item-init g t c = record {
  is_text = search rules;
  going = λ plain. ([], record { wrote = writes_in_calls_nil _ _; plain = plain }, joined_from-start (λ x. x) (codes " ") (map printed_expression c.args.items.now));
}

pub put_items-loop-item-preserved : goal.put_items-loop-item-preserved
put_items-loop-item-preserved g t c =
    let gap = c.loop-item.gap.now in
    let step = joined_from-drop printed_expression (λ x. x) gap (codes " ") c.args.items.now c.loop-item.item-index _ _ c.loop-item-test.true (ap (λ x. gap ++ printed_expression x) c.item-item.is) in
    record {
      is_text = search rules;
      going = λ plain.
          let now = c.loop-item.invariant.going plain in
          let one = c.write_str.ensures.writes now.1.plain (search rules) in
          let two = c.put_expression.ensures one.plain (search rules) in
          (_, has_written_append _ _ _ _ _ _ (has_written_append _ _ _ _ _ _ now.1 one) two, next_text now.0 gap _ _ _ _ step now.2);
    }

pub put_items-returns : goal.put_items-returns
put_items-returns g t c plain ok =
    let now = c.loop-item.invariant.going plain in
    let all = no_text (λ xs. joined_from (λ x. x) c.loop-item.gap.now (codes " ") (map printed_expression xs)) refl now.0 _ c.args.items.now c.loop-item.item-index (omega (arith, c.loop-item-test.false)) now.2 in
    has_written_of_eq _ _ _ _ _ (all ∙ ap spaced (texts_of_expressions c.args.items.now)) now.1
