use Rattle.law_extensions.proofs.RuleTells.{rules_are_kept}
use Rattle.law_extensions.proofs.laws.range_rules_are_kept.Goals as goal

pub returns : goal.returns
returns c = rules_are_kept
