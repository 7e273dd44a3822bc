use Rattle.smt_values.proofs.TypeRows as examples
use Rattle.smt_values.proofs.type_laws.calls_by_example.Goals as goal

pub returns-clause-calls : goal.returns-clause-calls
returns-clause-calls c = examples.call_examples

pub returns-clause-offsets : goal.returns-clause-offsets
returns-clause-offsets c = examples.offset_examples

pub returns-clause-others : goal.returns-clause-others
returns-clause-others c = examples.value_examples
