use Rattle.std.proofs.Common.{Ok, sym, subst, ◌∙◌}
use Rattle.smt_values.proofs.KeyPlaces.{stands_here}
use Rattle.smt_values.specs.KeyPlaces.{IsPlace}
use Rattle.smt_values.proofs.placing.place_of.Goals as goal

pub returns-in-Equal : goal.returns-in-Equal
returns-in-Equal g c =
    subst (λ p. IsPlace g.K.Ord.cmp c.args.key.now c.args.items.now (Ok p)) (sym c.loop-item.invariant.0)
    (stands_here g.K.Ord.cmp c.args.key.now c.args.items.now c.loop-item.item-index c.item-item.result c.loop-item.invariant.1 c.loop-item-test.true c.item-item.is (sym c.cmp.ensures ∙ c.in-Equal.is))
