use Rattle.law_lines.proofs.OfTypes as of_types
use Rattle.law_lines.proofs.OfTerms as of_terms
use Rattle.law_lines.proofs.scripts.lines_can_be_obeyed.Goals as goal

pub returns : goal.returns
returns c = record { types = of_types.types_step; terms = of_terms.terms_step }
