use Rattle.law_folding.proofs.BuiltTerms.{built_stands}
use Rattle.law_folding.proofs.laws.built_terms_refine.Goals as goal

pub returns : goal.returns
returns c = built_stands
