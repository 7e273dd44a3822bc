use Rattle.std.proofs.Common.{◌≡◌, map, option_map, take}
use Rattle.smt_term.specs.Entities.{texts_of_entity}
use Rattle.smt_values.specs.Stores.{action_of}
use Rattle.smt_values.specs.View.{plain_action}
use Rattle.smt_values.proofs.actions.ActionList.get.Given as goal

-- what is found is the last entry of those so far
abbrev pub invariant-loop-action : goal.invariant-loop-action
invariant-loop-action l = option_map (λ action. plain_action action.now) l.found ≡ action_of (map plain_action (take l.action-index l.action-items)) (texts_of_entity l.uid)
