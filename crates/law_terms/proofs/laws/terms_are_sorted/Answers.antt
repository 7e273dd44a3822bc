use Rattle.law_terms.proofs.SortedSets.{sorted_terms_ascend}
use Rattle.law_terms.proofs.laws.terms_are_sorted.Goals as goal

pub returns : goal.returns
returns c = sorted_terms_ascend
