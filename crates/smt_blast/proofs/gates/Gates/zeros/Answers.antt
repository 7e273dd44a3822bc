use Rattle.std.proofs.Common.{List, ◌++◌, ap, ◌∙◌, length, replicate, sym, subst, ℕ}
use Rattle.law_blasting.specs.OperatorCircuits.{term_gates}
use Rattle.law_blasting.proofs.Passing.{same_length}
use Rattle.smt_nodes.specs.declared.id.NodeId.{NodeId}
use Rattle.smt_blast.specs.Standing.{AreBits}
use Rattle.smt_blast.proofs.Choosing.{copies}
use Rattle.smt_blast.proofs.gates.Gates.zeros.Goals as goal

pub returns-clause-bits : goal.returns-clause-bits
returns-clause-bits c us p =
    let i = c.args.self.now.nodes in
    let n = length c.args.xs.now in
    let more = c.in_ok-push_copies.ensures ∙ ap (λ (l : List NodeId). l ++ replicate n c.no.result) c.in_ok-zeros.ensures.items in
    subst (λ (l : List NodeId). AreBits i l (replicate (length us) term_gates.no)) (sym more)
    (subst (λ (m : ℕ). AreBits i (replicate n c.no.result) (replicate m term_gates.no)) (same_length p) (copies n c.no.result term_gates.no c.no.ensures))
