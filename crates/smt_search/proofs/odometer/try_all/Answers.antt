use Rattle.std.proofs.Common.{◌≡◌, arith}
use Rattle.std.specs.Prelude.{length}
use Rattle.smt_clauses.specs.View.{plain_clauses}
use Rattle.smt_search.proofs.Counting.{all_passed, passed_more}
use Rattle.smt_search.proofs.odometer.try_all.Goals as goal

pub returns-then-not-advance-clause-tried : goal.returns-then-not-advance-clause-tried
returns-then-not-advance-clause-tried c =
    let e : length c.loop-limit.values ≡ length c.args.values.now = omega arith in
    all_passed (plain_clauses c.args.formula.now) (length c.args.values.now) c.loop-limit.values e c.requires.below c.if-not-advance.ensures c.if-solves.ensures c.loop-limit.invariant.passed

pub loop-limit-preserved : goal.loop-limit-preserved
loop-limit-preserved c =
    let e : length c.advance.new.values ≡ length c.loop-limit.values = omega arith in
    record {
      passed = passed_more (plain_clauses c.args.formula.now) c.loop-limit.values c.advance.new.values e c.if-not-advance.ensures c.if-solves.ensures c.loop-limit.invariant.passed;
      limit = omega arith;
    }
