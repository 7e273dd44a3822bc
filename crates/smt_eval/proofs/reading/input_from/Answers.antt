use Rattle.smt_eval.proofs.Inputs.{input_unread}
use Rattle.smt_eval.proofs.reading.input_from.Goals as goal

pub returns-in_err-read_eval-clause-refused : goal.returns-in_err-read_eval-clause-refused
returns-in_err-read_eval-clause-refused g c =
    input_unread c.from_residual.result c.in_err-read_eval.field-0.0 _ _ c.in-Ok.bytes.items c.as_slice.result.now c.from_residual.ensures.1 c.in-Ok.ensures.all.whole c.as_slice.ensures.value c.in_err-read_eval.ensures.refused
