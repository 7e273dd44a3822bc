use Rattle.law_terms.proofs.Listed.{listed}
use Rattle.law_terms.proofs.laws.plain_lists.Goals as goal

pub returns : goal.returns
returns c = listed
