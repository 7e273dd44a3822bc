use Rattle.law_terms.proofs.Matching.{matched, matching}
use Rattle.law_terms.proofs.laws.patterns_are_matched.Goals as goal

pub returns : goal.returns
returns c p s = (matched p s, matching p s)
