use Rattle.std.proofs.Common.{rules}
use Rattle.law_extensions.specs.ExtensionFunctions.{is_multicast}
use Rattle.law_folding.specs.Builder.{applied}
use Rattle.test_terms.specs.Groups.{address_twice}
use Rattle.test_terms.proofs.Groups.{groups_are_a_rule}
use Rattle.test_terms.proofs.functions.in_any_group.Goals as goal

pub new-rule-requires-clause-rule : goal.new-rule-requires-clause-rule
new-rule-requires-clause-rule c = record { test = is_multicast applied; bounds = address_twice; stands_test = search rules; stands_bounds = search rules; rule = groups_are_a_rule }
