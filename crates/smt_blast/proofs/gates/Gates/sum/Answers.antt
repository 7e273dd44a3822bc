use Rattle.std.proofs.Common.{sym, subst, [], List}
use Rattle.law_blasting.specs.OperatorCircuits.{term_gates}
use Rattle.law_blasting.specs.Passing.{none}
use Rattle.smt_nodes.specs.declared.id.NodeId.{NodeId}
use Rattle.smt_blast.specs.Standing.{AreBits}
use Rattle.smt_blast.proofs.gates.Gates.sum.Goals as goal

pub returns-clause-bits : goal.returns-clause-bits
returns-clause-bits c us vs p q =
    c.in_ok-add.ensures.bits us vs [] term_gates.no p q c.no-no.ensures (subst (λ (l : List NodeId). AreBits c.args.self.now.nodes l []) (sym c.in_ok-sum.ensures.items) none)
