use Rattle.law_assignments.proofs.Covering.{nothing_missing_is_covered}
use Rattle.law_assignments.proofs.Holding.{each_is_covered}
use Rattle.law_assignments.proofs.laws.nothing_missing_is_covered.Goals as goal

pub returns : goal.returns
returns c = record { covered = nothing_missing_is_covered; each = each_is_covered }
