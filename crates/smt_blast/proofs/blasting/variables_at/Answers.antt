use Rattle.std.proofs.Common.{◌∙◌, ap, get_or, ℕ}
use Rattle.smt_nodes.specs.declared.id.NodeId.{NodeId}
use Rattle.smt_blast.specs.View.{plain_bit_var}
use Rattle.smt_blast.proofs.Listing.{listing_begins, listing_ends, listing_on, next_variable}
use Rattle.smt_blast.proofs.blasting.variables_at.Goals as goal

pub loop-id-init : goal.loop-id-init
loop-id-init c vs r = listing_begins c.args.old.now c.args.ids.now vs c.new-vars.result c.new-vars.ensures r

pub loop-id-preserved : goal.loop-id-preserved
loop-id-preserved c vs r =
    let d : NodeId = record { place = 0 } in
    let k = c.loop-id.id-index in
    let h = c.loop-id.invariant vs r in
    let n = next_variable c.args.old.now c.args.ids.now vs c.loop-id.vars k d c.loop-id-test.true h in
    listing_on c.args.old.now c.args.ids.now vs c.loop-id.vars c.push.new.self k (get_or c.args.ids.now k d) (plain_bit_var c.in_ok-var.var) h n c.in_ok-push.ensures.ok
    (c.in_ok-var.ensures n.variable n.means ∙ ap (λ (m : ℕ). record { variable = n.variable; number = m }) c.len.ensures)

pub returns : goal.returns
returns c vs r = listing_ends c.args.old.now c.args.ids.now vs c.loop-id.vars c.loop-id.id-index c.loop-id-test.false (c.loop-id.invariant vs r)
