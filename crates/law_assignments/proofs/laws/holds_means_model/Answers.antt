use Rattle.law_assignments.proofs.Models as laws
use Rattle.law_assignments.proofs.laws.holds_means_model.Goals as goal

pub returns : goal.returns
returns c = record { restricted = laws.restrictions_are_interpretations; model = laws.holds_means_model }
