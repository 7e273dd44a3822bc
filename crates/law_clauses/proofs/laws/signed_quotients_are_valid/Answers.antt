use Rattle.law_clauses.proofs.SignedQuotients.{signed_quotients_are_valid}
use Rattle.law_clauses.proofs.laws.signed_quotients_are_valid.Goals as goal

pub returns : goal.returns
returns c = signed_quotients_are_valid
