use Rattle.smt_values.proofs.StoreRows as examples
use Rattle.smt_values.proofs.laws.stores_by_example.Goals as goal

pub returns-clause-stores : goal.returns-clause-stores
returns-clause-stores c = examples.store_examples

pub returns-clause-schemas : goal.returns-clause-schemas
returns-clause-schemas c = examples.schema_examples
