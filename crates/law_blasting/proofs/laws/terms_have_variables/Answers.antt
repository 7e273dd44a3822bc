use Rattle.law_blasting.proofs.Numbering.{variables_are_numbered, variables_are_distinct, variables_are_supported}
use Rattle.law_blasting.proofs.laws.terms_have_variables.Goals as goal

pub returns : goal.returns
returns c = record { numbered = variables_are_numbered; distinct = variables_are_distinct; supported = variables_are_supported }
