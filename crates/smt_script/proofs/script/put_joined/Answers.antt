use Rattle.law_texts.specs.SharedTexts.{texts}
use Rattle.law_texts.proofs.Joined.{joined_from-start, texts-drop}
use Rattle.smt_script.proofs.PutsLemmas.{exits, along, goes_on, goes_wrong}
use Rattle.smt_script.proofs.script.put_joined.Goals as goal

pub returns-in_err-put_all : goal.returns-in_err-put_all
returns-in_err-put_all g c =
    let step = texts-drop _ _ _ _ _ _ c.loop-item-test.true c.as_str.ensures.value c.item-item.is in
    exits c.from_residual.ensures.1 (along (joined_from-start (λ t. t) c.args.separator.now (texts c.args.items.now)) (goes_wrong _ _ c.loop-item.invariant.going step c.in_err-put_all.ensures))

pub loop-item-preserved : goal.loop-item-preserved
loop-item-preserved g c = record {
  is_text = c.utf8.separator;
  going = goes_on _ _ c.loop-item.invariant.going (texts-drop _ _ _ _ _ _ c.loop-item-test.true c.as_str.ensures.value c.item-item.is) c.in_ok-put_all.ensures;
}
