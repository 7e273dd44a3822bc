use Rattle.law_texts.proofs.Joined.{joined-drop}
use Rattle.smt_script.proofs.PutsLemmas.{exits, goes_on, goes_wrong}
use Rattle.smt_script.proofs.script.put_all.Goals as goal

pub returns-in_err-put : goal.returns-in_err-put
returns-in_err-put g c =
    exits c.from_residual.ensures.1 (goes_wrong _ _ c.loop-piece.invariant (joined-drop _ _ _ _ _ c.loop-piece-test.true c.as_bytes.ensures.value) c.in_err-put.ensures)

pub loop-piece-preserved : goal.loop-piece-preserved
loop-piece-preserved g c = goes_on _ _ c.loop-piece.invariant (joined-drop _ _ _ _ _ c.loop-piece-test.true c.as_bytes.ensures.value) c.in_ok-put.ensures
