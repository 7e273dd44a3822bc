use Rattle.std.proofs.Common.{refl}
use Rattle.smt_encode.proofs.Stopping.{none_of_it, on_error}
use Rattle.smt_encode.proofs.writer.Writer.put_type.Goals as goal

pub returns-in_err-name-clause-part : goal.returns-in_err-name-clause-part
returns-in_err-name-clause-part g c = on_error c.from_residual.result (none_of_it _ _ _ refl)

pub returns-in_err-declare_datatype-clause-part : goal.returns-in_err-declare_datatype-clause-part
returns-in_err-declare_datatype-clause-part g c = on_error c.from_residual-in_err-declare_datatype.result c.in_err-declare_datatype.ensures.err
