use Rattle.std.proofs.Common.{sym}
use Rattle.smt_nodes.proofs.Labels.{label_is, no_label}
use Rattle.smt_nodes.specs.View.{place_of}
use Rattle.smt_nodes.specs.Interned.{nodes_of}
use Rattle.smt_nodes.proofs.interner.Interner.label.Goals as goal

pub returns-in-Some : goal.returns-in-Some
returns-in-Some c = label_is (nodes_of c.args.self.now) c.args.self.now.graph (place_of c.args.id) _ (sym c.in-Some.ensures)

pub returns-in-None : goal.returns-in-None
returns-in-None c = no_label (nodes_of c.args.self.now) (place_of c.args.id) (sym c.in-None.ensures)
