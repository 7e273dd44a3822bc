use Rattle.law_theorem.proofs.Sorted.{sorted_value}
use Rattle.law_theorem.proofs.values.carried_values_have_sorts.Goals as goal

pub returns : goal.returns
returns c enums s here ty v good always d h = sorted_value here always enums s good ty v d h
