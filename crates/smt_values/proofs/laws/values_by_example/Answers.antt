use Rattle.smt_values.proofs.Rows as examples
use Rattle.smt_values.proofs.laws.values_by_example.Goals as goal

pub returns-clause-parts : goal.returns-clause-parts
returns-clause-parts c = examples.part_examples

pub returns-clause-sets : goal.returns-clause-sets
returns-clause-sets c = examples.set_examples

pub returns-clause-records : goal.returns-clause-records
returns-clause-records c = examples.record_examples
