use Rattle.std.proofs.Common.{◌≡◌, drop, map}
use Rattle.std.specs.Map.{lookup}
use Rattle.law_terms.specs.Interpretations.{selector_eq}
use Rattle.smt_term.specs.ExtensionView.{plain_extension_op}
use Rattle.smt_eval.specs.AssignmentView.{plain_selector}
use Rattle.smt_eval.proofs.assignment.Assignment.selector.Given as goal

-- what is found among the entries that are left is found among all of them
abbrev pub invariant-loop-selector : goal.invariant-loop-selector
invariant-loop-selector l = lookup (selector_eq (plain_extension_op l.op)) (map plain_selector (drop l.selector-index l.selector-items)) ≡ lookup (selector_eq (plain_extension_op l.op)) (map plain_selector l.selector-items)
