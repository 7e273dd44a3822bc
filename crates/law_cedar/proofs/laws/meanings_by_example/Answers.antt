use Rattle.law_cedar.proofs.ValueRows as examples
use Rattle.law_cedar.proofs.laws.meanings_by_example.Goals as goal

pub returns-clause-meanings : goal.returns-clause-meanings
returns-clause-meanings c = examples.meaning_examples

pub returns-clause-typed : goal.returns-clause-typed
returns-clause-typed c = examples.typing_examples

pub returns-clause-refused : goal.returns-clause-refused
returns-clause-refused c = examples.refusal_examples

pub returns-clause-ordered : goal.returns-clause-ordered
returns-clause-ordered c = examples.order_examples
