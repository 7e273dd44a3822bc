use Rattle.law_clauses.proofs.ProductOverflows.{product_overflows_are_valid}
use Rattle.law_clauses.proofs.laws.product_overflows_are_valid.Goals as goal

pub returns : goal.returns
returns c = product_overflows_are_valid
