use Rattle.smt_values.proofs.ReadBack.{constructed_is_answered, constructed_is_read, constructed_value_is_read}
use Rattle.smt_values.proofs.type_laws.constructed_values_are_read.Goals as goal

pub returns-clause-expression : goal.returns-clause-expression
returns-clause-expression c = constructed_is_read

pub returns-clause-value : goal.returns-clause-value
returns-clause-value c = constructed_value_is_read

pub returns-clause-answer : goal.returns-clause-answer
returns-clause-answer c = constructed_is_answered
