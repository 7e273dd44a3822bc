use Rattle.law_folding.proofs.OptionsStand.{none_kept}
use Rattle.law_folding.proofs.Records.{fields, interpretations, values}
use Rattle.law_folding.proofs.SetsKept.{set_kept}
use Rattle.law_folding.proofs.SetsStand.{empty_kept}
use Rattle.law_folding.proofs.Standing.{itself, onward, application, some}
use Rattle.law_folding.proofs.laws.refinement_is_kept.Goals as goal

pub returns-clause-kept : goal.returns-clause-kept
returns-clause-kept c = record { itself = itself; onward = onward; application = application; some = some; fields = fields; set = set_kept; is_none = none_kept; is_empty = empty_kept }

pub returns-clause-interpretations : goal.returns-clause-interpretations
returns-clause-interpretations c = interpretations

pub returns-clause-values : goal.returns-clause-values
returns-clause-values c = values
