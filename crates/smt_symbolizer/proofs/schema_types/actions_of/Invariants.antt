use Rattle.std.proofs.Common.{◌≡◌, ◌++◌, drop, map}
use Rattle.smt_values.specs.View.{plain_action}
use Rattle.smt_term.specs.Entities.{bytes_of_type}
use Rattle.law_cedar.specs.Symbolized.{actions_of}
use Rattle.smt_symbolizer.proofs.schema_types.actions_of.Given as goal

-- what is made and what there is of those that are left is what there is of all
abbrev pub invariant-loop-action : goal.invariant-loop-action
invariant-loop-action l = map (λ action. plain_action action.now) l.found.items ++ actions_of (bytes_of_type l.ety) (map plain_action (drop l.action-index l.actions)) ≡ actions_of (bytes_of_type l.ety) (map plain_action l.actions)
