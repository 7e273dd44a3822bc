use Rattle.std.proofs.Common.{refl, sym, ◌∙◌, arith}
use Rattle.smt_nodes.proofs.Labels.{none_behind_newest}
use Rattle.smt_nodes.specs.Index.{node_of}
use Rattle.smt_nodes.specs.Interned.{nodes_of}
use Rattle.smt_nodes.proofs.interner.Interner.find_node.Goals as goal

pub returns-in_default-clause-missing : goal.returns-in_default-clause-missing
returns-in_default-clause-missing c label h = c.args.self.now.index.unlabelled label c.args.parts.now (sym h ∙ c.in_default.is)

pub returns-in-len1-up-clause-missing : goal.returns-in-len1-up-clause-missing
returns-in-len1-up-clause-missing c label h =
    let s = c.args.self.now in
    let parts = c.args.parts.now in
    let some = c.in-len1-up.len_at_least in
    none_behind_newest (nodes_of s) s.graph (node_of label parts) parts parts _ _ (c.is_newest.ensures c.if-is_newest.true) refl refl (omega arith)
