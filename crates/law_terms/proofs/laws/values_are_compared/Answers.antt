use Rattle.std.proofs.Common.{ap, ◌∙◌, sym}
use Rattle.std.specs.Cmp.{Equal-is}
use Rattle.std.specs.Ordering.{is_eq}
use Rattle.law_terms.specs.ValueOrder.{value_cmp}
use Rattle.law_terms.proofs.TotalOrder.{values_total}
use Rattle.law_terms.proofs.ValueOrder.{value_same, value_itself}
use Rattle.law_terms.proofs.laws.values_are_compared.Goals as goal

pub returns-clause-equality : goal.returns-clause-equality
returns-clause-equality c v w = (λ h. value_same v w ((Equal-is (value_cmp v w)).0 h), λ e. sym (ap (λ u. is_eq (value_cmp v u)) e) ∙ ap is_eq (value_itself v))

pub returns-clause-order : goal.returns-clause-order
returns-clause-order c = values_total
