use Rattle.law_clauses.proofs.Parts.{built_have_shapes, parts_have_shapes, roots_have_shapes}
use Rattle.law_clauses.proofs.laws.parts_have_shapes.Goals as goal

pub returns-clause-roots : goal.returns-clause-roots
returns-clause-roots c = roots_have_shapes

pub returns-clause-parts : goal.returns-clause-parts
returns-clause-parts c = parts_have_shapes

pub returns-clause-built : goal.returns-clause-built
returns-clause-built c = built_have_shapes
