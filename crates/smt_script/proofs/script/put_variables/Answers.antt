use Rattle.std.proofs.Common.{codes, rules}
use Rattle.law_texts.specs.LineTexts.{sorted_name}
use Rattle.law_texts.specs.SharedTexts.{text_pairs}
use Rattle.law_texts.proofs.Joined.{joined_from-start}
use Rattle.law_texts.proofs.LineTexts.{sorted_names-drop}
use Rattle.smt_script.proofs.PutsLemmas.{exits, along, goes_on, goes_wrong}
use Rattle.smt_script.proofs.script.put_variables.Goals as goal

pub returns-in_err-put_all : goal.returns-in_err-put_all
returns-in_err-put_all g c =
    let step = sorted_names-drop _ _ _ _ _ _ c.loop-name-test.true c.as_str.ensures.value c.as_str-in-loop-name.ensures.value c.loop-name-item.is in
    exits c.from_residual.ensures.1 (along (joined_from-start sorted_name (codes " ") (text_pairs c.args.variables.now)) (goes_wrong _ _ c.loop-name.invariant.going step c.in_err-put_all.ensures))

pub loop-name-preserved : goal.loop-name-preserved
loop-name-preserved g c = record {
  is_text = search rules;
  going = goes_on _ _ c.loop-name.invariant.going
      (sorted_names-drop _ _ _ _ _ _ c.loop-name-test.true c.as_str.ensures.value c.as_str-in-loop-name.ensures.value c.loop-name-item.is) c.in_ok-put_all.ensures;
}
