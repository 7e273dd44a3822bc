use Rattle.std.proofs.Common.{◌∙◌, List, map, subst, sym}
use Rattle.std.proofs.lemmas.Result.{IfOk-weaker}
use Rattle.law_blasting.specs.Blasted.{blasted}
use Rattle.law_blasting.specs.Laws.{root}
use Rattle.law_blasting.specs.Passing.{Related}
use Rattle.law_terms.specs.Plain.{PlainTerm}
use Rattle.smt_nodes.specs.declared.id.IdList.{IdList}
use Rattle.smt_nodes.specs.declared.id.NodeId.{NodeId}
use Rattle.smt_blast.specs.Standing.{AreBits}
use Rattle.smt_blast.specs.Tables.{HasBits}
use Rattle.smt_blast.proofs.Entries.{anyway}
use Rattle.smt_blast.proofs.Listing.{first_of_each, roots_have_bits}
use Rattle.smt_blast.proofs.gates.Gates.roots.Goals as goal

pub returns-clause-roots : goal.returns-clause-roots
returns-clause-roots c ids vs ts h e m =
    let old = c.args.old.now in
    let i = c.table.new.self.nodes in
    let t = c.in_ok-table.ensures.table ids vs h in
    let bits = roots_have_bits old c.args.marks.now vs i c.in_ok-table.table.items (t.whole ∙ h.places) t.entries c.args.roots.now ts e m in
    let firsts = c.in_ok-bits.ensures (map (blasted vs) ts) (subst (λ (l : List IdList). Related (HasBits i l) c.args.roots.now (map (blasted vs) ts)) (sym c.as_slice.ensures.value) bits) in
    let roots = subst (λ (l : List PlainTerm). AreBits i c.in_ok-bits.bits.items l) (first_of_each vs ts) firsts in
    IfOk-weaker c.new.result _ _ (λ list k. subst (λ (l : List NodeId). AreBits i l (map (root vs) ts)) (sym (k ∙ c.as_slice-2.ensures.value)) roots) c.new.ensures

pub returns-clause-grows : goal.returns-clause-grows
returns-clause-grows c ids vs h = anyway c.new.result (c.in_ok-table.ensures.grows ids vs h)
