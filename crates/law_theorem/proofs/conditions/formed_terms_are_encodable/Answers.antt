use Rattle.law_theorem.proofs.FineTerms as laws
use Rattle.law_theorem.proofs.conditions.formed_terms_are_encodable.Goals as goal

pub returns : goal.returns
returns c = record {
  types = laws.types_are_fine;
  one = laws.typed_terms_are_fine;
  all = laws.typed_lists_are_fine;
}
