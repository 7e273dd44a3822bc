use Rattle.law_clauses.proofs.Options.{options_are_valid}
use Rattle.law_clauses.proofs.laws.options_are_valid.Goals as goal

pub returns : goal.returns
returns c = options_are_valid
