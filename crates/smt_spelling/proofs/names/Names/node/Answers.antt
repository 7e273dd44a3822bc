use Rattle.std.proofs.Common.{sym}
use Rattle.std.proofs.lemmas.Result.{IfOk-weaker}
use Rattle.law_terms.proofs.Distinct.{nothing_past}
use Rattle.smt_nodes.specs.Interned.{nodes_of}
use Rattle.smt_nodes.specs.View.{place_of}
use Rattle.smt_spelling.proofs.NodeOf.{is_node_of}
use Rattle.smt_spelling.proofs.names.Names.node.Goals as goal

pub unreachable-requires : goal.unreachable-requires
unreachable-requires c =
    let (m, meant) = c.requires in
    let none = nothing_past (nodes_of c.args.self.now.nodes) (place_of c.args.id) (sym c.in-None.ensures) in
    cc

pub returns : goal.returns
returns c = IfOk-weaker c.share.result _ _ (λ node same. is_node_of c.args.self.now.nodes c.args.id c.in-Some.node.now node (sym c.in-Some.ensures) same) c.share.ensures
