use Rattle.std.proofs.Common.{arith}
use Rattle.smt_stream.proofs.Linked.{led_first}
use Rattle.smt_stream.proofs.link.MiniLink.new.Goals as goal

pub invariant_of-result : goal.invariant_of-result
invariant_of-result c = record { within = omega arith; led = ∣ led_first c.new.result c.new-2.result.items c.new-3.result.items c.new-2.ensures.items c.new-3.ensures.items c.new.ensures ∣₁ }
