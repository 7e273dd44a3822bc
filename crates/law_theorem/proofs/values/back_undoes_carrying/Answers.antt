use Rattle.law_theorem.proofs.Onto.{comes_back}
use Rattle.law_theorem.proofs.values.back_undoes_carrying.Goals as goal

pub returns : goal.returns
returns c enums s here ty v good always d h = comes_back here always enums s good ty v d h
