use Rattle.std.proofs.Common.{arith}
use Rattle.smt_factory_core.proofs.AnyAnswers.{any_stands, leads_last, leads_on}
use Rattle.smt_factory_core.proofs.AnyTruth.{true_where_one_is}
use Rattle.smt_factory_core.proofs.any.any_true.Goals as goal
use Rattle.smt_term.specs.View.{plain_term}

pub loop-t-preserved : goal.loop-t-preserved
loop-t-preserved g c =
    leads_on (λ x r. g.F.Fn.post c.args.f.now (x, tt) r) c.args.ts.now c.loop-t.t-index (plain_term c.loop-t.any) (plain_term c.in_ok-any.any) c.t-item.result c.in_ok-share.field-0 c.in_ok-call.field-0
    c.loop-t-test.true c.t-item.is c.in_ok-share.ensures (rw c.in_ok-call.was at c.call.ensures) c.in_ok-any.ensures.folded c.loop-t.invariant

pub returns-clause-folded : goal.returns-clause-folded
returns-clause-folded g c = leads_last (λ x r. g.F.Fn.post c.args.f.now (x, tt) r) c.args.ts.now c.loop-t.t-index (plain_term c.loop-t.any) (omega (arith, c.loop-t-test.false)) c.loop-t.invariant

pub returns-clause-refines : goal.returns-clause-refines
returns-clause-refines g c original given =
    any_stands (λ x r. g.F.Fn.post c.args.f.now (x, tt) r) original _ (plain_term c.loop-t.any) given (leads_last (λ x r. g.F.Fn.post c.args.f.now (x, tt) r) c.args.ts.now c.loop-t.t-index (plain_term c.loop-t.any) (omega (arith, c.loop-t-test.false)) c.loop-t.invariant)

pub returns-clause-truth : goal.returns-clause-truth
returns-clause-truth g c booleans =
    true_where_one_is (λ x r. g.F.Fn.post c.args.f.now (x, tt) r) _ (plain_term c.loop-t.any) (leads_last (λ x r. g.F.Fn.post c.args.f.now (x, tt) r) c.args.ts.now c.loop-t.t-index (plain_term c.loop-t.any) (omega (arith, c.loop-t-test.false)) c.loop-t.invariant) booleans
