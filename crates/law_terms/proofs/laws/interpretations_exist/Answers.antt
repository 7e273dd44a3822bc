use Rattle.law_terms.proofs.Defaults.{interpreted}
use Rattle.law_terms.proofs.laws.interpretations_exist.Goals as goal

pub returns : goal.returns
returns c enums ts h f = interpreted enums ts h f
