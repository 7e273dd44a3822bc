use Rattle.std.proofs.Common.{◌≡◌}
use Rattle.std.specs.Prelude.{false}
use Rattle.smt_clauses.proofs.refutation.go_through.Goals as goal

pub returns-then-is_refuted-clause-refuted : goal.returns-then-is_refuted-clause-refuted
returns-then-is_refuted-clause-refuted c refuted v a = let f : c.is_refuted.result ≡ false = c.is_refuted.ensures v (c.loop-place.invariant v a) in cc

pub returns-then-is_refuted-2-clause-refuted : goal.returns-then-is_refuted-2-clause-refuted
returns-then-is_refuted-2-clause-refuted c refuted v a = let f : c.is_refuted-2.result ≡ false = c.is_refuted-2.ensures v (c.loop-place.invariant v a) in cc

pub loop-place-preserved : goal.loop-place-preserved
loop-place-preserved c v a = c.in_ok-step_at.ensures.keeps v (c.loop-place.invariant v a)
