use Rattle.smt_factory_core.proofs.AnyRows.{any_rows}
use Rattle.smt_factory_core.proofs.laws.any_rows.Goals as goal

pub returns : goal.returns
returns c = any_rows
