use Rattle.std.proofs.Common.{◌≡◌, ◌+◌, ◌^◌, arith}
use Rattle.std.specs.Prelude.{false, length, slice_set, true}
use Rattle.smt_search.proofs.Counting.{carried, last_of, number-set_false, number-set_true}
use Rattle.smt_search.specs.Counted.{number}
use Rattle.smt_search.proofs.odometer.advance.Goals as goal

pub returns-then-not-value : goal.returns-then-not-value
returns-then-not-value c =
    let s : number (slice_set c.loop-value.values c.loop-value.value-index true) ≡ number c.loop-value.values + 2 ^ c.loop-value.value-index = number-set_true c.loop-value.values c.loop-value.value-index (omega arith) c.if-not-value.true in
    omega (arith, s, c.loop-value.invariant)

pub loop-value-preserved : goal.loop-value-preserved
loop-value-preserved c =
    carried (number (slice_set c.loop-value.values c.loop-value.value-index false)) (number c.loop-value.values) (number c.args.values.now + 1) c.loop-value.value-index
    (number-set_false c.loop-value.values c.loop-value.value-index (omega arith) c.if-not-value.false) c.loop-value.invariant

pub returns : goal.returns
returns c = last_of c.args.values.now (number c.loop-value.values) c.loop-value.value-index (let e : c.loop-value.value-index ≡ length c.args.values.now = omega arith in e) c.loop-value.invariant
