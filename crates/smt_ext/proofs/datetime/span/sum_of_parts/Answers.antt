use Rattle.std.proofs.Common.{ℕ, sym, subst, zero-add}
use Rattle.smt_ext.specs.declared.datetime.span.Fault.TheVariants.{Form}
use Rattle.smt_ext.specs.DurationRefusal.{HasSum, all_units}
use Rattle.smt_ext.proofs.Durations.{none_left, sum_at_end, fault_at_end}
use Rattle.law_texts.proofs.Blanks.{empty_from}
use Rattle.smt_ext.proofs.datetime.span.sum_of_parts.Goals as goal

pub returns-then-is_empty-clause-sum : goal.returns-then-is_empty-clause-sum
returns-then-is_empty-clause-sum c =
    let P : ℕ → Type 0 = λ n. HasSum c.args.negative all_units c.args.text.now n in
    let none = none_left c.loop-unit.unit-index c.loop-unit-test.false c.loop-unit.auto.unit-index-end in
    subst P (zero-add c.loop-unit.total) (c.loop-unit.invariant.sum 0 (sum_at_end c.args.negative _ c.loop-unit.rest.now none (empty_from c.loop-unit.rest.now (sym c.if-is_empty.ensures))))

pub returns-else-is_empty-clause-fault : goal.returns-else-is_empty-clause-fault
returns-else-is_empty-clause-fault c =
    let none = none_left c.loop-unit.unit-index c.loop-unit-test.false c.loop-unit.auto.unit-index-end in
    c.loop-unit.invariant.later Form (fault_at_end c.args.negative _ c.loop-unit.rest.now none (sym c.if-is_empty.ensures))
