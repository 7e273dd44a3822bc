use Rattle.std.proofs.Common.{◌∙◌, ap, map, refl, sym}
use Rattle.law_texts.specs.LineTexts.{in_comment}
use Rattle.law_texts.proofs.LineTexts.{line_end-Some, line_end-None, drop_to_end}
use Rattle.smt_script.proofs.PutsLemmas.{exits, goes_on, goes_wrong, goes_last, leaves}
use Rattle.smt_script.proofs.script.put_on_one_line.Goals as goal

pub returns-in_err-put : goal.returns-in_err-put
returns-in_err-put g c = exits c.from_residual.ensures.1 (goes_wrong _ _ c.loop-end.invariant (line_end-Some _ _ (sym c.in-Some.ensures)) c.in_err-put.ensures)

pub returns-in_err-put-2 : goal.returns-in_err-put-2
returns-in_err-put-2 g c =
    let before = goes_on _ _ c.loop-end.invariant (line_end-Some _ _ (sym c.in-Some.ensures)) c.in_ok-put.ensures in
    exits c.from_residual-in_err-put-2.ensures.1 (goes_wrong _ _ before refl c.in_err-put-2.ensures)

pub loop-end-preserved : goal.loop-end-preserved
loop-end-preserved g c =
    let before = goes_on _ _ c.loop-end.invariant (line_end-Some _ _ (sym c.in-Some.ensures)) c.in_ok-put.ensures in
    leaves (ap (map in_comment) (drop_to_end c.loop-end.left.now _)) (goes_on _ _ before refl c.in_ok-put-2.ensures)

pub returns : goal.returns
returns g c = goes_last c.loop-end.invariant (line_end-None _ (sym c.line_end.ensures ∙ c.in_default.is)) c.put-2.ensures
