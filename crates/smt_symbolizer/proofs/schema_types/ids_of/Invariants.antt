use Rattle.std.proofs.Common.{◌≡◌, ◌++◌, drop, map}
use Rattle.std.specs.Rc.{rc_str_bytes}
use Rattle.smt_values.specs.View.{plain_action}
use Rattle.smt_symbolizer.proofs.schema_types.ids_of.Given as goal

-- what is made and what there is of those that are left is what there is of all
abbrev pub invariant-loop-action : goal.invariant-loop-action
invariant-loop-action l = map rc_str_bytes l.ids.items ++ map (λ action. action.uid.1) (map (λ action. plain_action action.now) (drop l.action-index l.actions)) ≡ map (λ action. action.uid.1) (map (λ action. plain_action action.now) l.actions)
