use Rattle.law_clauses.proofs.Products.{products_are_made, products_are_valid}
use Rattle.law_clauses.proofs.laws.products_are_valid.Goals as goal

pub returns-clause-made : goal.returns-clause-made
returns-clause-made c = products_are_made

pub returns-clause-valid : goal.returns-clause-valid
returns-clause-valid c = products_are_valid
