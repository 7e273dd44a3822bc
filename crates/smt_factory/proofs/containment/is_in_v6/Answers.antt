use Rattle.std.proofs.Common.{rules}
use Rattle.law_extensions.specs.ExtensionFunctions.{is_ipv6, range_v6}
use Rattle.law_extensions.proofs.RuleTells.{rules_are_kept}
use Rattle.smt_factory.proofs.containment.is_in_v6.Goals as goal
use Rattle.law_folding.specs.Builder.{applied}

pub new-requires-clause-rule : goal.new-requires-clause-rule
new-requires-clause-rule c = record { test = is_ipv6 applied; bounds = range_v6 applied; stands_test = search rules; stands_bounds = search rules; rule = rules_are_kept.v6 }
