use Rattle.std.proofs.Common.{◌≡◌, map, arith}
use Rattle.std.proofs.lemmas.Result.{IfOk-weaker}
use Rattle.law_extensions.proofs.RuleTells.{rules_are_kept}
use Rattle.smt_factory.proofs.Rules.{IsFormedBeside, builds_formed, folds, leads_first, leads_last, leads_on, stands, test_formed}
use Rattle.law_folding.specs.Builder.{applied, folding}
use Rattle.law_folding.specs.Refinement.{Refines}
use Rattle.smt_term.specs.View.{plain_term}
use Rattle.smt_factory.proofs.containment.in_range_v.Goals as goal

pub loop-x-init : goal.loop-x-init
loop-x-init g c = (
  λ i r s z. leads_first folding (λ t u. t ≡ u) i r (plain_term c.args.t) folds c.args.ts.now (plain_term c.from-in_one.result) c.from-in_one.ensures,
  λ i r s z. leads_first applied Refines i r (plain_term c.args.t) stands c.args.ts.now (plain_term c.from-in_one.result) c.from-in_one.ensures,
  λ i r s z. leads_first applied IsFormedBeside i r (plain_term c.args.t) builds_formed c.args.ts.now (plain_term c.from-in_one.result) c.from-in_one.ensures,
)

pub loop-x-preserved : goal.loop-x-preserved
loop-x-preserved g c = (
  λ i r s z. leads_on folding (λ t u. t ≡ u) i r (plain_term c.args.t) folds c.args.ts.now c.loop-x.x-index (plain_term c.loop-x.in_one) (plain_term c.in_ok-in_one.in_one)
      (plain_term c.in_ok-is_of_family.is_of_family) (plain_term c.in_ok-lies_in.lies_in) (plain_term c.in_ok-and.field-0) (plain_term c.in_ok-share.field-0) (plain_term c.in_ok-share-2.field-0) (plain_term c.in_ok-share-3.field-0)
      c.x-item.result c.loop-x-test.true c.x-item.is c.in_ok-share.ensures c.in_ok-share-2.ensures c.in_ok-share-3.ensures c.in_ok-in_one.ensures.folded c.in_ok-and.ensures.folded
      (s c.in_ok-share.field-0 c.in_ok-is_of_family.is_of_family (rw c.in_ok-is_of_family.was at c.call.ensures)) (c.in_ok-lies_in.ensures.folded r z) (c.loop-x.invariant.0 i r s z),
  λ i r s z. leads_on applied Refines i r (plain_term c.args.t) stands c.args.ts.now c.loop-x.x-index (plain_term c.loop-x.in_one) (plain_term c.in_ok-in_one.in_one)
      (plain_term c.in_ok-is_of_family.is_of_family) (plain_term c.in_ok-lies_in.lies_in) (plain_term c.in_ok-and.field-0) (plain_term c.in_ok-share.field-0) (plain_term c.in_ok-share-2.field-0) (plain_term c.in_ok-share-3.field-0)
      c.x-item.result c.loop-x-test.true c.x-item.is c.in_ok-share.ensures c.in_ok-share-2.ensures c.in_ok-share-3.ensures c.in_ok-in_one.ensures.folded c.in_ok-and.ensures.folded
      (s c.in_ok-share.field-0 c.in_ok-is_of_family.is_of_family (rw c.in_ok-is_of_family.was at c.call.ensures)) (c.in_ok-lies_in.ensures.refines r z) (c.loop-x.invariant.1 i r s z),
  λ i r s z. leads_on applied IsFormedBeside i r (plain_term c.args.t) builds_formed c.args.ts.now c.loop-x.x-index (plain_term c.loop-x.in_one) (plain_term c.in_ok-in_one.in_one)
      (plain_term c.in_ok-is_of_family.is_of_family) (plain_term c.in_ok-lies_in.lies_in) (plain_term c.in_ok-and.field-0) (plain_term c.in_ok-share.field-0) (plain_term c.in_ok-share-2.field-0) (plain_term c.in_ok-share-3.field-0)
      c.x-item.result c.loop-x-test.true c.x-item.is c.in_ok-share.ensures c.in_ok-share-2.ensures c.in_ok-share-3.ensures c.in_ok-in_one.ensures.folded c.in_ok-and.ensures.folded
      (test_formed i (plain_term c.in_ok-share.field-0) c.in_ok-is_of_family.is_of_family (s c.in_ok-share.field-0 c.in_ok-is_of_family.is_of_family (rw c.in_ok-is_of_family.was at c.call.ensures))) (c.in_ok-lies_in.ensures.formed r z) (c.loop-x.invariant.2 i r s z),
)

pub returns-clause-folded : goal.returns-clause-folded
returns-clause-folded g c i r s z =
    IfOk-weaker c.and-2.result _ _
    (λ v h. leads_last folding (λ t u. t ≡ u) i r (plain_term c.args.t) folds c.args.ts.now c.loop-x.x-index (plain_term c.loop-x.in_one) (plain_term v) (plain_term c.in_ok-is_ip.field-0)
    (omega (arith, c.loop-x-test.false)) h (s c.args.t c.in_ok-is_ip.field-0 (rw c.in_ok-is_ip.was at c.is_ip.ensures)) (c.loop-x.invariant.0 i r s z))
    c.and-2.ensures.folded

pub returns-clause-refines : goal.returns-clause-refines
returns-clause-refines g c i r s z =
    IfOk-weaker c.and-2.result _ _
    (λ v h. leads_last applied Refines i r (plain_term c.args.t) stands c.args.ts.now c.loop-x.x-index (plain_term c.loop-x.in_one) (plain_term v) (plain_term c.in_ok-is_ip.field-0)
    (omega (arith, c.loop-x-test.false)) h (s c.args.t c.in_ok-is_ip.field-0 (rw c.in_ok-is_ip.was at c.is_ip.ensures)) (c.loop-x.invariant.1 i r s z))
    c.and-2.ensures.folded

pub returns-clause-formed : goal.returns-clause-formed
returns-clause-formed g c i r s z =
    IfOk-weaker c.and-2.result _ _
    (λ v h. leads_last applied IsFormedBeside i r (plain_term c.args.t) builds_formed c.args.ts.now c.loop-x.x-index (plain_term c.loop-x.in_one) (plain_term v) (plain_term c.in_ok-is_ip.field-0)
    (omega (arith, c.loop-x-test.false)) h (test_formed i (plain_term c.args.t) c.in_ok-is_ip.field-0 (s c.args.t c.in_ok-is_ip.field-0 (rw c.in_ok-is_ip.was at c.is_ip.ensures))) (c.loop-x.invariant.2 i r s z))
    c.and-2.ensures.folded

pub returns-clause-truth : goal.returns-clause-truth
returns-clause-truth g c by =
    IfOk-weaker c.and-2.result _ _
    (λ v h. rules_are_kept.in_range_v by.test by.bounds (plain_term c.args.t) (map plain_term c.args.ts.now) (plain_term v) by.rule
    (leads_last applied Refines by.test by.bounds (plain_term c.args.t) stands c.args.ts.now c.loop-x.x-index (plain_term c.loop-x.in_one) (plain_term v) (plain_term c.in_ok-is_ip.field-0)
    (omega (arith, c.loop-x-test.false)) h (by.stands_test c.args.t c.in_ok-is_ip.field-0 (rw c.in_ok-is_ip.was at c.is_ip.ensures)) (c.loop-x.invariant.1 by.test by.bounds by.stands_test by.stands_bounds)))
    c.and-2.ensures.folded
