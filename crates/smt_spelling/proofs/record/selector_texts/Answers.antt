use Rattle.std.proofs.Common.{◌+◌, ◌∷◌, ◌++◌, [], drop, sym, ap, ◌∙◌, append_assoc, append-nil, arith, rules}
use Rattle.std.specs.Rc.{rc_str_bytes}
use Rattle.std.proofs.lemmas.List.{map-append}
use Rattle.law_texts.specs.SharedTexts.{texts}
use Rattle.smt_spelling.proofs.Records.{none_from, selectors, selectors_from}
use Rattle.smt_spelling.proofs.record.selector_texts.Goals as goal

pub loop-sort-init : goal.loop-sort-init
loop-sort-init c = record {
  counted = search rules;
  made = λ es shown. ap (λ l. texts l ++ selectors c.args.name.now 0 es) c.in_ok-selectors.ensures.items;
}

pub loop-sort-preserved : goal.loop-sort-preserved
loop-sort-preserved c =
    let name = c.args.name.now in
    let n = c.loop-sort.place in
    let old = c.loop-sort.selectors.items in
    let made = c.in_ok-selector_text.field-0 in
    record {
      counted = omega (arith, c.loop-sort.invariant.counted);
      made = λ es shown.
          let rest = selectors name (n + 1) (drop (n + 1) es) in
          ap (λ l. texts l ++ rest) c.in_ok-push.ensures.items
          ∙ ap (λ l. l ++ rest) (map-append rc_str_bytes old (made ∷ []))
          ∙ append_assoc (texts old) (rc_str_bytes made ∷ []) rest
          ∙ ap (λ t. texts old ++ t ∷ rest) c.in_ok-selector_text.ensures
          ∙ ap (λ l. texts old ++ l) (sym (selectors_from name n _ es _ _ _ shown c.loop-sort.invariant.counted c.loop-sort-test.true c.as_str.ensures.value c.sort-item.is))
          ∙ c.loop-sort.invariant.made es shown;
    }

pub returns : goal.returns
returns c es shown =
    let name = c.args.name.now in
    let n = c.loop-sort.place in
    let old = c.loop-sort.selectors.items in
    let none = none_from name n es c.args.sorts.now shown (omega (arith, c.loop-sort.invariant.counted, c.loop-sort-test.false)) in
    sym (append-nil (texts old))
    ∙ ap (λ l. texts old ++ l) (sym none)
    ∙ c.loop-sort.invariant.made es shown
