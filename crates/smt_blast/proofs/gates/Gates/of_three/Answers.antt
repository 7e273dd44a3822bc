use Rattle.std.proofs.Common.{[], ◌∷◌, List, ap, sym, subst}
use Rattle.law_blasting.specs.OperatorCircuits.{operator_circuit, term_gates, the_bit}
use Rattle.law_blasting.specs.Passing.{none}
use Rattle.law_terms.specs.Plain.{PlainTerm}
use Rattle.smt_nodes.specs.declared.id.NodeId.{NodeId}
use Rattle.smt_blast.specs.CircuitView.{operator_of}
use Rattle.smt_blast.specs.Standing.{AreBits}
use Rattle.smt_blast.proofs.Operating.{nothing_of_three, nothing_stands}
use Rattle.smt_blast.proofs.Standing.{not_grown}
use Rattle.smt_blast.proofs.gates.Gates.of_three.Goals as goal

pub returns-in_ok-choose-in-Choice-clause-bits : goal.returns-in_ok-choose-in-Choice-clause-bits
returns-in_ok-choose-in-Choice-clause-bits c gs us vs p q r =
    let i = c.args.self.now.nodes in
    let bits = c.in_ok-choose-in-Choice.ensures.bits us vs [] (the_bit term_gates gs) (c.the_bit-bit.ensures gs p) q r (subst (λ (l : List NodeId). AreBits i l []) (sym c.in_ok-chosen-in-Choice.ensures.items) none) in
    subst (λ (l : List PlainTerm). AreBits c.choose.new.self.nodes c.choose.new.chosen.items l) (sym (ap (λ k. operator_circuit term_gates (operator_of k) (gs ∷ us ∷ vs ∷ [])) c.in-Choice.is)) bits

pub returns-in_default : goal.returns-in_default
returns-in_default c = record {
  bits = λ gs us vs p q r. nothing_stands c.args.self.now.nodes c.new.result.items (operator_circuit term_gates (operator_of c.args.circuit) (gs ∷ us ∷ vs ∷ [])) c.new.ensures.items (nothing_of_three c.args.circuit gs us vs c.in_default.not-Choice);
  grows = λ n. not_grown c.args.self.now.nodes 2048;
}
