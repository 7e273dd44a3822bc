use Rattle.law_clauses.proofs.Parts.{built_have_values, parts_have_values}
use Rattle.law_clauses.proofs.laws.parts_have_values.Goals as goal

pub returns-clause-parts : goal.returns-clause-parts
returns-clause-parts c = parts_have_values

pub returns-clause-built : goal.returns-clause-built
returns-clause-built c = built_have_values
