use Rattle.std.proofs.Common.{◌≡◌, ◌++◌, drop, map}
use Rattle.smt_values.specs.View.{plain_action}
use Rattle.smt_term.specs.Entities.{bytes_of_type}
use Rattle.smt_term.specs.Enums.{enums_of}
use Rattle.smt_symbolizer.specs.Named.{said}
use Rattle.smt_symbolizer.specs.Stored.{action_table}
use Rattle.smt_term.specs.Functions.{plain_unary}
use Rattle.smt_values.specs.DefaultTerm.{default_term}
use Rattle.smt_symbolizer.proofs.entities.action_tables.Given as goal

-- what is made and what there is of those that are left is what there is of all
abbrev pub invariant-loop-kind : goal.invariant-loop-kind
invariant-loop-kind l = map (said plain_unary) l.pairs.items ++ map (λ kind. (kind, action_table (default_term (enums_of l.enums)) (bytes_of_type l.ety) kind (map (λ action. plain_action action.now) l.actions))) (map bytes_of_type (drop l.kind-index l.kinds)) ≡ map (λ kind. (kind, action_table (default_term (enums_of l.enums)) (bytes_of_type l.ety) kind (map (λ action. plain_action action.now) l.actions))) (map bytes_of_type l.kinds)
