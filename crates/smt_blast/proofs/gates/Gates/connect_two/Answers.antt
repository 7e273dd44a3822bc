use Rattle.std.proofs.Common.{ap}
use Rattle.smt_blast.proofs.Operating.{given_two, nothing_stands}
use Rattle.smt_blast.specs.declared.circuit.Circuit.TheVariants.{Logic}
use Rattle.smt_blast.proofs.gates.Gates.connect_two.Goals as goal

pub returns-in-Not-clause-bits : goal.returns-in-Not-clause-bits
returns-in-Not-clause-bits c us vs p q = nothing_stands c.args.self.now.nodes c.new.result.items (given_two us vs (Logic c.args.connective)) c.new.ensures.items (ap (λ k. given_two us vs (Logic k)) c.in-Not.is)
