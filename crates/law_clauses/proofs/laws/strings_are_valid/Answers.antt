use Rattle.law_clauses.proofs.Strings.{strings_are_valid}
use Rattle.law_clauses.proofs.laws.strings_are_valid.Goals as goal

pub returns : goal.returns
returns c = strings_are_valid
