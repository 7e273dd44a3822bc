use Rattle.std.proofs.Common.{◌≡◌, ◌++◌, drop, map, not}
use Rattle.std.specs.List.{filter}
use Rattle.smt_values.specs.View.{entry_named, plain_action}
use Rattle.law_cedar.specs.Symbolized.{is_action_type}
use Rattle.smt_symbolizer.proofs.schema_types.own_types.Given as goal

-- what is made and what there is of those that are left is what there is of all
abbrev pub invariant-loop-entry : goal.invariant-loop-entry
invariant-loop-entry l = map (λ p. entry_named p.now) l.types.items ++ filter (λ p. not (is_action_type (map plain_action l.actions) p.0)) (map entry_named (drop l.entry-index l.entry-items)) ≡ filter (λ p. not (is_action_type (map plain_action l.actions) p.0)) (map entry_named l.entry-items)
