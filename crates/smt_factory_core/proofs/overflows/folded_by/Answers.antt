use Rattle.std.proofs.Common.{inl, inr}
use Rattle.std.proofs.lemmas.Result.{IfOk-weaker}
use Rattle.smt_factory_core.proofs.overflows.folded_by.Goals as goal

pub returns-in-Some : goal.returns-in-Some
returns-in-Some g c = inl (c.in-Some.leaves, c.in-Some.ensures, c.from.ensures)

pub returns-in-None : goal.returns-in-None
returns-in-None g c = IfOk-weaker c.binary_test.result _ _ (λ r h. inr (c.in-None.ensures, h)) c.binary_test.ensures
