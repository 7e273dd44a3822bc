use Rattle.std.proofs.Common.{◌≡◌, ◌<◌, List, Some, subst, sym}
use Rattle.std.specs.List.{AllByRecursion}
use Rattle.std.specs.Prelude.{IfSome}
use Rattle.law_terms.specs.Meanings.{all_found, meanings}
use Rattle.law_terms.specs.Parts.{parts_in}
use Rattle.smt_nodes.proofs.Labels.{no_parts, parts_are, parts_before}
use Rattle.smt_nodes.specs.Interned.{meaning_in, nodes_of}
use Rattle.smt_nodes.specs.View.{place_of, places_of, plain_node}
use Rattle.smt_nodes.specs.declared.id.NodeId.{NodeId}
use Rattle.smt_nodes.proofs.interner.Interner.parts.Goals as goal

pub returns-in-Some-clause-found : goal.returns-in-Some-clause-found
returns-in-Some-clause-found c =
    let P : List NodeId → Type 0 = λ ids. IfSome (meaning_in c.args.self.now c.args.id) (λ m. all_found (meanings (nodes_of c.args.self.now)) (places_of ids) ≡ Some (parts_in m)) in
    subst P (sym c.items.ensures) (parts_are (nodes_of c.args.self.now) c.args.self.now.graph (place_of c.args.id) (plain_node c.in-Some.node.now) (sym c.in-Some.ensures))

pub returns-in-Some-clause-earlier : goal.returns-in-Some-clause-earlier
returns-in-Some-clause-earlier c =
    let P : List NodeId → Type 0 = λ ids. AllByRecursion (λ part. part < place_of c.args.id) (places_of ids) in
    subst P (sym c.items.ensures) (parts_before (nodes_of c.args.self.now) c.args.self.now.graph (place_of c.args.id) (plain_node c.in-Some.node.now) (sym c.in-Some.ensures))

pub returns-in-None-clause-found : goal.returns-in-None-clause-found
returns-in-None-clause-found c = no_parts (nodes_of c.args.self.now) (place_of c.args.id) (sym c.in-None.ensures)
