use Rattle.std.proofs.Common.{◌≡◌, ◌++◌, drop, map}
use Rattle.smt_values.specs.View.{plain_action}
use Rattle.smt_term.specs.Entities.{bytes_of_type}
use Rattle.smt_term.specs.Enums.{enums_of}
use Rattle.law_cedar.specs.Symbolized.{actions_of}
use Rattle.smt_symbolizer.specs.Named.{said}
use Rattle.smt_symbolizer.specs.Stored.{data_of_actions}
use Rattle.smt_symbolizer.specs.EntityView.{plain_data}
use Rattle.smt_values.specs.DefaultTerm.{default_term}
use Rattle.smt_symbolizer.proofs.entities.all_action_data.Given as goal

-- what is made and what there is of those that are left is what there is of all
abbrev pub invariant-loop-ety : goal.invariant-loop-ety
invariant-loop-ety l = map (said plain_data) l.pairs.items ++ map (λ type. (type, data_of_actions (default_term (enums_of l.enums)) type (map bytes_of_type l.kinds) (actions_of type (map plain_action l.actions)))) (map bytes_of_type (drop l.ety-index l.kinds)) ≡ map (λ type. (type, data_of_actions (default_term (enums_of l.enums)) type (map bytes_of_type l.kinds) (actions_of type (map plain_action l.actions)))) (map bytes_of_type l.kinds)
