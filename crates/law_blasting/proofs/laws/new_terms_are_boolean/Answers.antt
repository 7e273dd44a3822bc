use Rattle.law_blasting.proofs.NewTerms.{new_terms_are_boolean, boolean_terms_are_formed, boolean_terms_have_no_fault, booleans_interpret}
use Rattle.law_blasting.proofs.laws.new_terms_are_boolean.Goals as goal

pub returns : goal.returns
returns c = record { terms = new_terms_are_boolean; formed = boolean_terms_are_formed; faults = boolean_terms_have_no_fault; interpreted = booleans_interpret }
