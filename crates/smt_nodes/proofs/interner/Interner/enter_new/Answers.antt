use Rattle.smt_nodes.proofs.Growing.{few_after, graph_after, grown_after, kept_after, meaning_after, truths_after}
use Rattle.smt_nodes.specs.View.{place_of}
use Rattle.smt_nodes.proofs.interner.Interner.enter_new.Goals as goal

pub invariant_of-self : goal.invariant_of-self
invariant_of-self c =
    let s = c.args.self.now in
    record { graph = graph_after s.table.nodes.items c.enter.new.self.nodes.items c.args.node c.enter.result s.graph c.requires.fits c.requires.missing c.enter.ensures.nodes c.enter.ensures.same_nodes; index = c.enter.ensures.index; few = few_after s.table.nodes.items c.enter.new.self.nodes.items c.args.node c.enter.result s.few c.enter.ensures.few c.enter.ensures.nodes c.enter.ensures.same_nodes; truths = truths_after s.table.nodes.items c.enter.new.self.nodes.items c.args.node c.enter.result s.bool_type c.enter.ensures.nodes c.enter.ensures.same_nodes s.truths }

pub returns-clause-meaning : goal.returns-clause-meaning
returns-clause-meaning c = meaning_after c.args.self.now.table.nodes.items c.enter.new.self.nodes.items c.args.node c.enter.result c.enter.ensures.place c.enter.ensures.nodes

pub returns-clause-kept : goal.returns-clause-kept
returns-clause-kept c id m h = kept_after c.args.self.now.table.nodes.items c.enter.new.self.nodes.items c.args.node c.enter.result c.enter.ensures.nodes c.enter.ensures.same_nodes (place_of id) m h

pub returns-clause-grown : goal.returns-clause-grown
returns-clause-grown c = grown_after c.args.self.now.table.nodes.items c.enter.new.self.nodes.items c.args.node c.enter.result c.args.self.now.graph c.requires.missing c.enter.ensures.nodes
