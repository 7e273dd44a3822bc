use Rattle.std.proofs.Common.{arith, sym}
use Rattle.smt_search.proofs.Models.{none_true}
use Rattle.smt_search.specs.Given.{truths_of}
use Rattle.smt_search.proofs.model.holds.Goals as goal

pub returns : goal.returns
returns c = sym (none_true (truths_of c.args.values.now) c.args.clause.now (λ k h. c.loop-literal.invariant k (omega arith)))
