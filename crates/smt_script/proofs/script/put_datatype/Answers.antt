-- Parameters that are not blank stand before the constructors.
use Rattle.law_texts.specs.LineTexts.{constructor_lines}
use Rattle.law_texts.specs.SharedTexts.{texts}
use Rattle.law_texts.proofs.LineTexts.{datatype_body-parts}
use Rattle.smt_script.proofs.PutsLemmas.{exits, along, then, stops}
use Rattle.smt_script.proofs.script.put_datatype.Goals as goal

pub returns-in_err-put : goal.returns-in_err-put
returns-in_err-put g c =
    exits c.from_residual.ensures.1 (along (datatype_body-parts _ (constructor_lines (texts c.args.constructors.now)) c.if-is_blank.ensures.1) (stops _ c.in_err-put.ensures))

pub returns-in_err-put_joined : goal.returns-in_err-put_joined
returns-in_err-put_joined g c =
    exits c.from_residual-in_err-put_joined.ensures.1 (along (datatype_body-parts _ (constructor_lines (texts c.args.constructors.now)) c.if-is_blank.ensures.1)
    (then _ c.in_ok-put.ensures (stops _ c.in_err-put_joined.ensures)))

pub returns-in_err-put-2 : goal.returns-in_err-put-2
returns-in_err-put-2 g c =
    exits c.from_residual-in_err-put-2.ensures.1 (along (datatype_body-parts _ (constructor_lines (texts c.args.constructors.now)) c.if-is_blank.ensures.1)
    (then _ c.in_ok-put.ensures (then _ c.in_ok-put_joined.ensures (stops _ c.in_err-put-2.ensures))))

pub returns-in_err-put_constructors : goal.returns-in_err-put_constructors
returns-in_err-put_constructors g c =
    exits c.from_residual-in_err-put_constructors.ensures.1 (along (datatype_body-parts _ (constructor_lines (texts c.args.constructors.now)) c.if-is_blank.ensures.1)
    (then _ c.in_ok-put.ensures (then _ c.in_ok-put_joined.ensures (then _ c.in_ok-put-2.ensures (stops _ c.in_err-put_constructors.ensures)))))

pub returns : goal.returns
returns g c =
    along (datatype_body-parts _ (constructor_lines (texts c.args.constructors.now)) c.if-is_blank.ensures.1)
    (then _ c.in_ok-put.ensures (then _ c.in_ok-put_joined.ensures (then _ c.in_ok-put-2.ensures (then _ c.in_ok-put_constructors.ensures c.put-3.ensures))))
