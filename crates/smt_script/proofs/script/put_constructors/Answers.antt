use Rattle.smt_script.proofs.PutsLemmas.{exits, then, stops}
use Rattle.smt_script.proofs.script.put_constructors.Goals as goal

pub returns-in_err-put : goal.returns-in_err-put
returns-in_err-put g c = exits c.from_residual.ensures.1 (stops _ c.in_err-put.ensures)

pub returns-in_err-put_joined : goal.returns-in_err-put_joined
returns-in_err-put_joined g c = exits c.from_residual-in_err-put_joined.ensures.1 (then _ c.in_ok-put.ensures (stops _ c.in_err-put_joined.ensures))

pub returns : goal.returns
returns g c = then _ c.in_ok-put.ensures (then _ c.in_ok-put_joined.ensures c.put-2.ensures)
