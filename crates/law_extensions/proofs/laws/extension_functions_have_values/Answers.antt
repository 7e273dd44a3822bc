use Rattle.law_extensions.proofs.OfValues.{containment_has_values, times_have_values}
use Rattle.law_extensions.proofs.laws.extension_functions_have_values.Goals as goal

pub returns : goal.returns
returns c = record { containment = containment_has_values; times = times_have_values }
