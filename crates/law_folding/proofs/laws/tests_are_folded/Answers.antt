use Rattle.law_folding.proofs.BitsStand.{stands_test, stands_overflow, stands_bvnego}
use Rattle.law_folding.proofs.laws.tests_are_folded.Goals as goal

pub returns : goal.returns
returns c = record { bvnego = stands_bvnego; test = stands_test; overflow = stands_overflow }
