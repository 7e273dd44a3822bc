use Rattle.law_extensions.proofs.TextRows as examples
use Rattle.law_extensions.proofs.laws.texts_by_example.Goals as goal

pub returns : goal.returns
returns c = record { decimals = examples.decimal_examples; durations = examples.duration_examples; ranges = examples.range_examples; datetimes = examples.datetime_examples }
