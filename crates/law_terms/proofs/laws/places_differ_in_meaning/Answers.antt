use Rattle.law_terms.proofs.Distinct.{places_differ, places_mean}
use Rattle.law_terms.proofs.laws.places_differ_in_meaning.Goals as goal

pub returns : goal.returns
returns c = record { meanings = places_mean; differ = places_differ }
