use Rattle.law_theorem.proofs.Agree as laws
use Rattle.law_theorem.proofs.conditions.places_are_found.Goals as goal

pub returns : goal.returns
returns c = record { places = laws.places_found; attributes = laws.attributes_found }
