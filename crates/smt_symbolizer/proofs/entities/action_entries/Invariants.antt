use Rattle.std.proofs.Common.{◌≡◌, ◌++◌, drop, map}
use Rattle.smt_values.specs.View.{plain_action}
use Rattle.smt_term.specs.Entities.{bytes_of_type}
use Rattle.law_cedar.specs.Symbolized.{action_entry}
use Rattle.smt_term.specs.Tables.{plain_entry}
use Rattle.smt_symbolizer.proofs.entities.action_entries.Given as goal

-- what is made and what there is of those that are left is what there is of all
abbrev pub invariant-loop-action : goal.invariant-loop-action
invariant-loop-action l = map plain_entry l.pairs.items ++ map (action_entry (bytes_of_type l.kind)) (map (λ action. plain_action action.now) (drop l.action-index l.actions)) ≡ map (action_entry (bytes_of_type l.kind)) (map (λ action. plain_action action.now) l.actions)
