use Rattle.std.proofs.Common.{sym, subst, [], ◌∷◌, ◌++◌, List, ap, ◌∙◌}
use Rattle.law_blasting.specs.Passing.{none, one}
use Rattle.smt_nodes.specs.declared.id.NodeId.{NodeId}
use Rattle.smt_blast.specs.Standing.{AreBits}
use Rattle.smt_blast.proofs.gates.Gates.alone.Goals as goal

pub returns : goal.returns
returns c u s =
    subst (λ (l : List NodeId). AreBits c.args.self.now.nodes l (u ∷ [])) (sym (c.in_ok-push.ensures.items ∙ ap (λ (l : List NodeId). l ++ c.args.bit ∷ []) c.in_ok-bits.ensures.items)) (one s none)
