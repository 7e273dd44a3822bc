use Rattle.law_terms.proofs.Whole.{whole}
use Rattle.law_terms.proofs.laws.meanings_determine_parts.Goals as goal

pub returns : goal.returns
returns c = whole
