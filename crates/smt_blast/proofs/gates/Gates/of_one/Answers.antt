use Rattle.std.proofs.Common.{List, ◌++◌, ap, ◌∙◌, replicate, sym, subst}
use Rattle.law_blasting.specs.OperatorCircuits.{term_gates}
use Rattle.law_terms.specs.Plain.{PlainTerm}
use Rattle.smt_nodes.specs.declared.id.NodeId.{NodeId}
use Rattle.smt_blast.specs.Standing.{AreBits}
use Rattle.smt_blast.proofs.Choosing.{copies}
use Rattle.smt_blast.proofs.Operating.{given_one, nothing_of_one, nothing_stands}
use Rattle.smt_blast.proofs.Standing.{joined, not_grown}
use Rattle.smt_blast.proofs.gates.Gates.of_one.Goals as goal

pub returns-in-Equal : goal.returns-in-Equal
returns-in-Equal c = record {
  bits = λ us p. nothing_stands c.args.self.now.nodes c.new.result.items (given_one us c.args.circuit) c.new.ensures.items (nothing_of_one c.args.circuit us c.in-Equal.is);
  grows = λ n. not_grown c.args.self.now.nodes 2048;
}

pub returns-in_ok-push_copies-in-ZeroExtension-clause-bits : goal.returns-in_ok-push_copies-in-ZeroExtension-clause-bits
returns-in_ok-push_copies-in-ZeroExtension-clause-bits c us p =
    let i = c.args.self.now.nodes in
    let k = c.in-ZeroExtension.count in
    let more = c.in_ok-push_copies-in-ZeroExtension.ensures ∙ ap (λ (l : List NodeId). l ++ replicate k c.no.result) c.in_ok-bits-in-ZeroExtension.ensures.items in
    subst (λ (l : List PlainTerm). AreBits i c.push_copies.new.bits.items l) (sym (ap (given_one us) c.in-ZeroExtension.is))
    (subst (λ (l : List NodeId). AreBits i l (us ++ replicate k term_gates.no)) (sym more) (joined p (copies k c.no.result term_gates.no c.no.ensures)))
