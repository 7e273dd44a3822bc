use Rattle.std.proofs.Common.{◌≤◌, ◌∙◌, ◌∷◌, [], List, ap, arith, length, map, subst, sym, take}
use Rattle.std.proofs.lemmas.List.{map-append, take_all}
use Rattle.law_blasting.specs.OperatorCircuits.{term_gates, the_bit}
use Rattle.law_blasting.specs.Passing.{none}
use Rattle.law_blasting.proofs.Passing.{same_length}
use Rattle.law_terms.specs.Plain.{PlainTerm}
use Rattle.smt_nodes.specs.declared.id.NodeId.{NodeId}
use Rattle.smt_blast.specs.Standing.{AreBits}
use Rattle.smt_blast.proofs.Listing.{related_at}
use Rattle.smt_blast.proofs.Standing.{pushed}
use Rattle.smt_blast.proofs.Tabling.{read}
use Rattle.smt_blast.proofs.gates.Gates.first_bits.Goals as goal

pub loop-id-init : goal.loop-id-init
loop-id-init c uss r = subst (λ (l : List NodeId). AreBits c.args.self.now.nodes l []) (sym c.in_ok-bits.ensures.items) none

pub loop-id-preserved : goal.loop-id-preserved
loop-id-preserved c uss r =
    let k = c.loop-id.id-index in
    let d : NodeId = record { place = 0 } in
    let (us, b, e) = related_at k d r c.loop-id-test.true in
    let more = pushed c.in_ok-push.ensures.items (c.loop-id.invariant uss r) (c.the_bit-bit.ensures us (read c.bits_at.ensures b)) in
    subst (λ (l : List PlainTerm). AreBits c.args.self.now.nodes c.push.new.self.items l) (sym (ap (map (the_bit term_gates)) e ∙ map-append (the_bit term_gates) (take k uss) (us ∷ []))) more

pub returns : goal.returns
returns c uss r =
    let n = same_length r in
    let all : length uss ≤ c.loop-id.id-index = omega (arith, n, c.loop-id-test.false) in
    subst (λ (l : List (List PlainTerm)). AreBits c.args.self.now.nodes c.loop-id.bits.items (map (the_bit term_gates) l)) (take_all c.loop-id.id-index uss all) (c.loop-id.invariant uss r)
