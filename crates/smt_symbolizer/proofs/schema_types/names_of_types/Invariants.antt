use Rattle.std.proofs.Common.{◌≡◌, ◌++◌, drop, map}
use Rattle.std.specs.Rc.{rc_str_bytes}
use Rattle.smt_values.specs.View.{plain_action}
use Rattle.smt_symbolizer.proofs.schema_types.names_of_types.Given as goal

-- what is made and what there is of those that are left is what there is of all
abbrev pub invariant-loop-action : goal.invariant-loop-action
invariant-loop-action l = map rc_str_bytes l.names.items ++ map (λ action. action.uid.0) (map plain_action (drop l.action-index l.actions)) ≡ map (λ action. action.uid.0) (map plain_action l.actions)
