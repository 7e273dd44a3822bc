use Rattle.std.proofs.Common.{ℕ, ◌+◌, ◌*◌, ◌^◌, ◌≤◌, drop}
use Rattle.smt_ext.specs.declared.datetime.span.Fault.{Fault}
use Rattle.smt_ext.specs.DurationRefusal.{IsFirstFault, HasSum, all_units}
use Rattle.smt_ext.proofs.datetime.span.sum_of_parts.Given as goal

-- What holds of the parts that are left holds of all.
abbrev pub invariant-loop-unit : goal.invariant-loop-unit
invariant-loop-unit l = record {
  small : l.total ≤ l.unit-index * 2 ^ 64;
  sum : (n : ℕ) → HasSum l.negative (drop l.unit-index all_units) l.rest n → HasSum l.negative all_units l.fn.text (n + l.total);
  later : (f : Fault) → IsFirstFault l.negative (drop l.unit-index all_units) l.rest f → IsFirstFault l.negative all_units l.fn.text f;
}
