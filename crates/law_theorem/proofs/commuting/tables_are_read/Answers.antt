use Rattle.law_theorem.proofs.Selectors.{table_read}
use Rattle.law_theorem.proofs.commuting.tables_are_read.Goals as goal

pub returns : goal.returns
returns c enums s argument output table v good h k = table_read enums s good argument output table v h k
