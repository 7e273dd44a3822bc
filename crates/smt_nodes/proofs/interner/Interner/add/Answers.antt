use Rattle.std.proofs.Common.{inr, refl, sym, ap, ◌∙◌}
use Rattle.law_terms.specs.Meanings.{meaning_of, meanings}
use Rattle.smt_nodes.proofs.Labels.{found_means}
use Rattle.smt_nodes.specs.Index.{node_of}
use Rattle.smt_nodes.specs.Interned.{nodes_of}
use Rattle.smt_nodes.proofs.interner.Interner.add.Goals as goal

pub returns-in-Some-clause-meaning : goal.returns-in-Some-clause-meaning
returns-in-Some-clause-meaning c =
    let ns = nodes_of c.args.self.now in
    let label = c.args.node.label in
    let m = found_means ns c.args.self.now.graph (node_of label c.items.result.now) c.in_ok-id.field-0 c.in-Some.id c.in-Some.is (c.in_ok-id.ensures.found label c.first_of-first.ensures.first) in
    m.1 ∙ (sym m.2 ∙ ap (λ parts. meaning_of (meanings ns) (node_of label parts)) c.items.ensures)

pub returns-in-Some-clause-grown : goal.returns-in-Some-clause-grown
returns-in-Some-clause-grown c =
    let ns = nodes_of c.args.self.now in
    let label = c.args.node.label in
    let m = found_means ns c.args.self.now.graph (node_of label c.items.result.now) c.in_ok-id.field-0 c.in-Some.id c.in-Some.is (c.in_ok-id.ensures.found label c.first_of-first.ensures.first) in
    inr (refl, (c.in-Some.id, m.0, m.1, sym (ap (λ parts. meaning_of (meanings ns) (node_of label parts)) c.items.ensures) ∙ m.2))
