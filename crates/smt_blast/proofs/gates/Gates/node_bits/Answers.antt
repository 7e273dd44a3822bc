use Rattle.std.proofs.Common.{◌≡◌, List, Some, subst}
use Rattle.law_terms.specs.Parts.{label_in}
use Rattle.smt_nodes.specs.Interned.{meaning_in}
use Rattle.std.specs.Prelude.{IfOk, option_map}
use Rattle.law_blasting.specs.Blasted.{blasted}
use Rattle.law_terms.specs.Plain.{PlainTerm}
use Rattle.smt_blast.specs.Standing.{AreBits}
use Rattle.smt_term.specs.View.{plain_op}
use Rattle.smt_nodes.specs.View.{plain_label}
use Rattle.smt_blast.proofs.Nodes.{application_has_bits, label_is, other_has_no_bits}
use Rattle.smt_blast.proofs.Operating.{nothing_stands}
use Rattle.smt_blast.proofs.Standing.{not_grown}
use Rattle.smt_blast.proofs.gates.Gates.node_bits.Goals as goal

pub returns-in-App-clause-bits : goal.returns-in-App-clause-bits
returns-in-App-clause-bits c marks vs s h n =
    let l = subst (λ label. Some (plain_label label) ≡ option_map label_in (meaning_in c.args.old.now c.args.seen.id)) c.in-App.is c.in-Some-label.ensures in
    let (uss, taken, bits, is) = application_has_bits c.args.old.now marks vs c.args.self.now.nodes c.args.table.now c.args.seen s h n c.parts.result.now c.in-Some.arguments.now c.in-Some.ty.now c.in-Some.ensures.cases.0 c.parts.ensures.found c.parts.ensures.earlier (plain_op c.in-App.op) l in
    subst (λ (us : List PlainTerm). IfOk c.operated.result (λ bits. AreBits c.operated.new.self.nodes bits.items us)) is (c.operated.ensures.bits uss taken bits)

pub returns-in-App-clause-grows : goal.returns-in-App-clause-grows
returns-in-App-clause-grows c marks vs s h n =
    let l = subst (λ label. Some (plain_label label) ≡ option_map label_in (meaning_in c.args.old.now c.args.seen.id)) c.in-App.is c.in-Some-label.ensures in
    let (uss, taken, bits, is) = application_has_bits c.args.old.now marks vs c.args.self.now.nodes c.args.table.now c.args.seen s h n c.parts.result.now c.in-Some.arguments.now c.in-Some.ty.now c.in-Some.ensures.cases.0 c.parts.ensures.found c.parts.ensures.earlier (plain_op c.in-App.op) l in
    c.operated.ensures.grows uss bits

pub returns-in_default-label-2 : goal.returns-in_default-label-2
returns-in_default-label-2 c = record {
  bits = λ marks vs s h n.
      let l = label_is c.args.old.now c.args.seen.id (plain_label c.in-Some-label.label.now) s.term s.means c.in-Some-label.ensures in
      nothing_stands c.args.self.now.nodes c.new-in_default-label-2.result.items (blasted vs s.term) c.new-in_default-label-2.ensures.items (other_has_no_bits vs c.in-Some-label.label.now s.term l c.in_default-label-2.not-App c.in_default-label-2.not-Prim c.in_default-label-2.not-Var);
  grows = λ marks vs s h n. not_grown c.args.self.now.nodes 2048;
}
