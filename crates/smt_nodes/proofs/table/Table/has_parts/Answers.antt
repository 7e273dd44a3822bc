use Rattle.std.proofs.Common.{get_or, sym, ap, ◌∙◌}
use Rattle.std.proofs.lemmas.Option.{slice_get-get_or}
use Rattle.std.specs.Cmp.Lexicographic.{pointwise}
use Rattle.std.specs.Prelude.{Some}
use Rattle.smt_nodes.proofs.Tables.{has_these}
use Rattle.smt_nodes.specs.View.{place_of}
use Rattle.smt_nodes.specs.contracts.id.NodeIdPartialEq.TheImpl as id_equality
use Rattle.smt_nodes.proofs.table.Table.has_parts.Goals as goal

pub returns : goal.returns
returns c =
    let nodes = c.args.self.now.nodes.items in
    let node = c.index.result.now in
    let there = slice_get-get_or nodes (place_of c.args.id) node c.requires ∙ ap Some (ap (λ i. get_or nodes i node) (sym c.place.ensures) ∙ sym c.index.ensures) in
    c.eq.ensures ∙ (ap (λ ids. pointwise id_equality.ghosts.eq ids c.args.parts.now) c.items.ensures ∙ has_these c.args.self.now c.args.id node c.args.parts.now there)
