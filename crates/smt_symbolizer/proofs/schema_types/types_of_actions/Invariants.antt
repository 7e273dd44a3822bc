use Rattle.std.proofs.Common.{◌≡◌, ◌++◌, drop, map}
use Rattle.smt_values.specs.View.{plain_action}
use Rattle.smt_term.specs.Entities.{bytes_of_type}
use Rattle.smt_term.specs.TextSets.{texts_of}
use Rattle.law_cedar.specs.Symbolized.{action_ids}
use Rattle.smt_symbolizer.specs.Named.{said}
use Rattle.smt_symbolizer.proofs.schema_types.types_of_actions.Given as goal

-- what is made and what there is of those that are left is what there is of all
abbrev pub invariant-loop-ety : goal.invariant-loop-ety
invariant-loop-ety l = map (said texts_of) l.found.items ++ map (λ type. (type, action_ids (map plain_action l.actions) type)) (map bytes_of_type (drop l.ety-index l.types)) ≡ map (λ type. (type, action_ids (map plain_action l.actions) type)) (map bytes_of_type l.types)
