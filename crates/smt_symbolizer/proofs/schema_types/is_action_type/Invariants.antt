use Rattle.std.proofs.Common.{◌≡◌, drop, map}
use Rattle.smt_values.specs.View.{plain_action}
use Rattle.smt_term.specs.Entities.{bytes_of_type}
use Rattle.law_cedar.specs.Symbolized.{is_action_type}
use Rattle.smt_symbolizer.proofs.schema_types.is_action_type.Given as goal

-- whether those that are left have one of the type decides it of all
abbrev pub invariant-loop-action : goal.invariant-loop-action
invariant-loop-action l = is_action_type (map plain_action (drop l.action-index l.actions)) (bytes_of_type l.ety) ≡ is_action_type (map plain_action l.actions) (bytes_of_type l.ety)
