use Rattle.law_theorem.proofs.Selectors.{datetime_built, duration_built, family_tested}
use Rattle.law_theorem.proofs.commuting.constructors_commute.Goals as goal

pub returns : goal.returns
returns c enums s I v d ps place fields = (λ h. datetime_built enums s I v h, λ h. duration_built enums s I v h, λ h. family_tested enums s I v d ps place fields h)
