use Rattle.std.proofs.Common.{◌<◌, arith, below_more, get_or}
use Rattle.law_clauses.specs.Clauses.{negated}
use Rattle.smt_clauses.specs.Marked.{width_of}
use Rattle.smt_clauses.proofs.Chains.{assumed_more}
use Rattle.smt_clauses.proofs.assumption.assume.Goals as goal

pub returns-in_err-assume_false-clause-holds : goal.returns-in_err-assume_false-clause-holds
returns-in_err-assume_false-clause-holds c v f h = assumed_more v c.loop-literal.marks c.assume_false.new.marks c.args.clause.now c.loop-literal.literal-index (omega arith) c.assume_false.ensures.marks f (c.loop-literal.invariant.holds v f h)

pub loop-literal-preserved : goal.loop-literal-preserved
loop-literal-preserved c = record {
  holds = λ v f h. assumed_more v c.loop-literal.marks c.assume_false.new.marks c.args.clause.now c.loop-literal.literal-index (omega arith) c.assume_false.ensures.marks f (c.loop-literal.invariant.holds v f h);
  kept = λ k q. c.loop-literal.invariant.kept k (c.assume_false.ensures.kept k q);
  done = below_more _ _
      (λ k lt within. c.assume_false.ensures.stays (negated (get_or c.args.clause.now k 0)) (c.loop-literal.invariant.done k lt (let same : negated (get_or c.args.clause.now k 0) < width_of c.loop-literal.marks = omega (arith, within, c.assume_false.ensures.width) in same)))
      c.in_ok-assume_false.ensures.done;
}
