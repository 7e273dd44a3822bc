use Rattle.std.proofs.Common.{refl, sym, ◌∙◌}
use Rattle.law_terms.proofs.Places.{some_same}
use Rattle.smt_nodes.proofs.Tables.{more_labels}
use Rattle.smt_nodes.specs.declared.table.Table.{Table}
use Rattle.smt_nodes.proofs.table.Table.enter_id.Goals as goal

pub returns-in_ok-insert-in-Some-clause-key : goal.returns-in_ok-insert-in-Some-clause-key
returns-in_ok-insert-in-Some-clause-key c own h =
    ((λ l. refl), record { first = c.in-Some.first; parts = c.in_ok-parts-in-Some.parts }, some_same c.in-Some.first own (sym c.in-Some.is ∙ h), c.in_ok-parts-in-Some.ensures, c.in_ok-insert-in-Some.ensures.updates.0)

pub returns-in_ok-insert-in-None-bits_of-clause-label : goal.returns-in_ok-insert-in-None-bits_of-clause-label
returns-in_ok-insert-in-None-bits_of-clause-label c h =
    let s = c.args.self.now in
    let after : Table = record { nodes = s.nodes; firsts = c.insert-in-None-bits_of.new.self; bits = s.bits; ids = s.ids } in
    (more_labels s after c.args.node.now.label c.in_ok-share-in-None-bits_of.field-0 c.args.id (sym c.in-None-bits_of.ensures) c.in_ok-share-in-None-bits_of.ensures refl c.in_ok-insert-in-None-bits_of.ensures.updates.0, λ k. refl)
