use Rattle.smt_script.proofs.PutsLemmas.{exits, then, stops}
use Rattle.smt_script.proofs.script.SmtLibScript.comment.Goals as goal

pub returns-in_err-put : goal.returns-in_err-put
returns-in_err-put g c = exits c.from_residual.ensures.1 (stops _ c.in_err-put.ensures)

pub returns-in_err-put_on_one_line : goal.returns-in_err-put_on_one_line
returns-in_err-put_on_one_line g c =
    exits c.from_residual-in_err-put_on_one_line.ensures.1 (rw (← c.as_bytes.ensures.value) (then _ c.in_ok-put.ensures (stops _ c.in_err-put_on_one_line.ensures)))

pub returns : goal.returns
returns g c = rw (← c.as_bytes.ensures.value) (then _ c.in_ok-put.ensures (then _ c.in_ok-put_on_one_line.ensures c.put-2.ensures))
