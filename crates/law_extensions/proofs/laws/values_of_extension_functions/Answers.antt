use Rattle.law_extensions.proofs.Rows.{containment_examples, rule_examples, time_examples}
use Rattle.law_extensions.proofs.laws.values_of_extension_functions.Goals as goal

pub returns : goal.returns
returns c = record { containment = containment_examples; rules = rule_examples; times = time_examples }
