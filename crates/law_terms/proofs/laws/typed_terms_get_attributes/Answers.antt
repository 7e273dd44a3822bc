use Rattle.law_terms.proofs.RecordFaults.{fine}
use Rattle.law_terms.proofs.laws.typed_terms_get_attributes.Goals as goal

pub returns : goal.returns
returns c enums t h = fine enums t h
