use Rattle.law_clauses.proofs.Extensions.{extensions_are_valid}
use Rattle.law_clauses.proofs.laws.extensions_are_valid.Goals as goal

pub returns : goal.returns
returns c enums roots = extensions_are_valid enums roots
