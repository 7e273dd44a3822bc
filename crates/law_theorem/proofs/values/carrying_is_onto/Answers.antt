use Rattle.law_theorem.proofs.Onto.{onto}
use Rattle.law_theorem.proofs.values.carrying_is_onto.Goals as goal

pub returns : goal.returns
returns c enums s here ty x good always d h = onto here always enums s good ty x d h
