use Rattle.law_theorem.proofs.Sets.{insertions}
use Rattle.law_theorem.proofs.commuting.insertions_commute.Goals as goal

pub returns : goal.returns
returns c enums s t vs good h = insertions enums s good t vs h
