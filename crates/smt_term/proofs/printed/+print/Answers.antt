use Rattle.std.proofs.Common.{[], ◌++◌, ◌∙◌, ap, arith, map, refl, rules, sym}
use Rattle.std.proofs.lemmas.Bool.{false≢true}
use Rattle.std.proofs.Output.{has_written_append, has_written_of_eq, writes_in_calls_nil}
use Rattle.std.specs.Prelude.{codes}
use Rattle.law_texts.proofs.Joined.{joined_from, joined_from-drop, joined_from-start}
use Rattle.smt_term.specs.Printed.{field_text, field_texts}
use Rattle.law_texts.specs.LineTexts.{comma_separated}
use Rattle.smt_term.specs.View.{plain_fields}
use Rattle.law_terms.specs.Plain.{record_fields}
use Rattle.smt_term.proofs.PrintedTexts.{next_text, no_item, printed_field, printed_term, some_fields, texts_of_fields, texts_of_terms}
use Rattle.smt_term.proofs.printed.+print.Goals as goal

pub put_terms-loop-item-init : goal.put_terms-loop-item-init
put_terms-loop-item-init g t c = record {
  is_text = search rules;
  going = λ plain. ([], record { wrote = writes_in_calls_nil _ _; plain = plain }, joined_from-start (λ x. x) (codes ", ") (map printed_term c.args.items.now));
}

pub put_terms-loop-item-preserved : goal.put_terms-loop-item-preserved
put_terms-loop-item-preserved g t c =
    let gap = c.loop-item.gap.now in
    let step = joined_from-drop printed_term (λ x. x) gap (codes ", ") c.args.items.now c.loop-item.item-index _ _ c.loop-item-test.true (ap (λ x. gap ++ printed_term x) c.item-item.is) in
    record {
      is_text = search rules;
      going = λ plain.
          let now = c.loop-item.invariant.going plain in
          let one = c.write_str.ensures.writes now.1.plain (search rules) in
          let two = c.put_term.ensures one.plain (search rules) in
          (_, has_written_append _ _ _ _ _ _ (has_written_append _ _ _ _ _ _ now.1 one) two, next_text now.0 gap _ _ _ _ step now.2);
    }

pub put_terms-returns : goal.put_terms-returns
put_terms-returns g t c plain ok =
    let now = c.loop-item.invariant.going plain in
    let all = no_item (λ xs. joined_from (λ x. x) c.loop-item.gap.now (codes ", ") (map printed_term xs)) refl now.0 _ c.args.items.now c.loop-item.item-index (omega (arith, c.loop-item-test.false)) now.2 in
    has_written_of_eq _ _ _ _ _ (all ∙ ap comma_separated (texts_of_terms c.args.items.now)) now.1

pub put_fields-loop-name-init : goal.put_fields-loop-name-init
put_fields-loop-name-init g t c = record {
  is_text = search rules;
  going = λ plain. ([], record { wrote = writes_in_calls_nil _ _; plain = plain }, joined_from-start (λ x. x) (codes ", ") (map printed_field c.items-pairs.result.now));
}

pub put_fields-loop-name-preserved : goal.put_fields-loop-name-preserved
put_fields-loop-name-preserved g t c =
    let gap = c.loop-name.before.now in
    let p = c.loop-name-item.result in
    let text = ap (λ n. field_text n (printed_term p.1)) c.as_str.ensures.value ∙ ap printed_field c.loop-name-item.is in
    let step = joined_from-drop printed_field (λ x. x) gap (codes ", ") c.items-pairs.result.now c.loop-name.name-index p _ c.loop-name-test.true (ap (λ x. gap ++ x) text) in
    record {
      is_text = search rules;
      going = λ plain.
          let now = c.loop-name.invariant.going plain in
          let one = c.write_str.ensures.writes now.1.plain (search rules) in
          let two = c.write_str-in-loop-name.ensures.writes one.plain (search rules) in
          let three = c.write_str-in-loop-name-2.ensures.writes two.plain (search rules) in
          let four = c.put_term.ensures three.plain (search rules) in
          (_, has_written_append _ _ _ _ _ _ (has_written_append _ _ _ _ _ _ now.1 one) (has_written_append _ _ _ _ _ _ two (has_written_append _ _ _ _ _ _ three four)), next_text now.0 gap _ _ _ _ step now.2);
    }

pub put_fields-returns : goal.put_fields-returns
put_fields-returns g t c plain ok =
    let now = c.loop-name.invariant.going plain in
    let all = no_item (λ xs. joined_from (λ x. x) c.loop-name.before.now (codes ", ") (map printed_field xs)) refl now.0 _ c.items-pairs.result.now c.loop-name.name-index (omega (arith, c.loop-name-test.false)) now.2 in
    has_written_of_eq _ _ _ _ _ (all ∙ ap comma_separated (texts_of_fields c.items-pairs.result.now ∙ ap (λ ps. field_texts (record_fields ps)) c.items-pairs.ensures.plain)) now.1

pub put_record-returns : goal.put_record-returns
put_record-returns g t c plain ok =
    let one = c.write_str-2.ensures.writes plain (search rules) in
    let two = c.put_fields.ensures one.plain (search rules) in
    let three = c.write_str-3.ensures.writes two.plain ok in
    has_written_of_eq _ _ _ _ _ (sym (some_fields (plain_fields c.args.fields.now) (λ e. false≢true (sym c.if-is_empty.false ∙ c.is_empty.ensures.1 e)))) (has_written_append _ _ _ _ _ _ one (has_written_append _ _ _ _ _ _ two three))
