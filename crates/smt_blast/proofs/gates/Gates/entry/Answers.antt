use Rattle.std.proofs.Common.{◌≡◌, ◌∙◌, List, length, subst, sym}
use Rattle.std.proofs.lemmas.Result.{IfOk-weaker}
use Rattle.law_blasting.specs.Blasted.{blasted}
use Rattle.law_terms.proofs.Places.{some_same}
use Rattle.smt_nodes.specs.View.{place_of}
use Rattle.smt_nodes.specs.declared.id.NodeId.{NodeId}
use Rattle.smt_blast.specs.Marks.{IsSeen}
use Rattle.smt_blast.specs.Standing.{AreBits}
use Rattle.smt_blast.proofs.Entries.{anyway}
use Rattle.smt_blast.proofs.gates.Gates.entry.Goals as goal

pub returns-in_ok-bits-in-Some-clause-bits : goal.returns-in_ok-bits-in-Some-clause-bits
returns-in_ok-bits-in-Some-clause-bits c marks vs seen s e has n =
    let old = c.args.old.now in
    let j = c.node_bits.new.self.nodes in
    let same = some_same c.in-Some.seen seen (sym c.in-Some.is ∙ e) in
    let bits = subst (λ x. (k : IsSeen old marks vs x.id x) → length c.args.table.now ≡ place_of x.id → AreBits j c.in_ok-bits-in-Some.bits.items (blasted vs k.term)) same (λ k m. c.in_ok-bits-in-Some.ensures.bits marks vs k has m) s n in
    IfOk-weaker c.new.result _ _ (λ list i. subst (λ (l : List NodeId). AreBits j l (blasted vs s.term)) (sym (i ∙ c.as_slice.ensures.value)) bits) c.new.ensures

pub returns-in_ok-bits-in-Some-clause-grows : goal.returns-in_ok-bits-in-Some-clause-grows
returns-in_ok-bits-in-Some-clause-grows c marks vs has next =
    let here = next c.in-Some.seen c.in-Some.is in
    anyway c.new.result (c.in_ok-bits-in-Some.ensures.grows marks vs here.0 has here.1)
