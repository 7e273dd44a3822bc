use Rattle.std.proofs.Common.{sym, subst, ◌≡◌, ◌++◌, List, ap, ◌∙◌, arith, length}
use Rattle.law_blasting.specs.Circuits.{with_top}
use Rattle.law_blasting.specs.Sizes.{carry_size}
use Rattle.smt_nodes.specs.declared.id.NodeId.{NodeId}
use Rattle.smt_blast.specs.Standing.{AreBits}
use Rattle.smt_blast.proofs.Comparing.{topped}
use Rattle.smt_blast.proofs.Gating.{with_top_length}
use Rattle.smt_blast.proofs.Standing.{not_grown, then_grown}
use Rattle.smt_blast.proofs.gates.Gates.signed_less.Goals as goal

pub returns-clause-bit : goal.returns-clause-bit
returns-clause-bit c us vs p q =
    let i = c.args.self.now.nodes in
    let low : c.as_slice.result.now ≡ with_top c.args.xs.now c.args.ys.now = c.as_slice.ensures.value ∙ (c.in_ok-push_with_top.ensures ∙ ap (λ (l : List NodeId). l ++ with_top c.args.xs.now c.args.ys.now) c.in_ok-low.ensures.items) in
    let high : c.as_slice-2.result.now ≡ with_top c.args.ys.now c.args.xs.now = c.as_slice-2.ensures.value ∙ (c.in_ok-push_with_top-2.ensures ∙ ap (λ (l : List NodeId). l ++ with_top c.args.ys.now c.args.xs.now) c.in_ok-high.ensures.items) in
    c.less.ensures.bit (with_top us vs) (with_top vs us) (subst (λ (l : List NodeId). AreBits i l (with_top us vs)) (sym low) (topped p q)) (subst (λ (l : List NodeId). AreBits i l (with_top vs us)) (sym high) (topped q p))

pub returns-clause-grows : goal.returns-clause-grows
returns-clause-grows c =
    let low : c.as_slice.result.now ≡ with_top c.args.xs.now c.args.ys.now = c.as_slice.ensures.value ∙ (c.in_ok-push_with_top.ensures ∙ ap (λ (l : List NodeId). l ++ with_top c.args.xs.now c.args.ys.now) c.in_ok-low.ensures.items) in
    let n : length c.as_slice.result.now ≡ length (with_top c.args.xs.now c.args.ys.now) = ap length low in
    then_grown c.less.new.self.nodes (carry_size (length c.as_slice.result.now)) (carry_size (length c.args.xs.now)) c.less.result (omega (arith, with_top_length c.args.xs.now c.args.ys.now)) (not_grown c.args.self.now.nodes 0) c.less.ensures.grows
