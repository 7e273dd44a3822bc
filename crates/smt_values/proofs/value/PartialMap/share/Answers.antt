use Rattle.smt_values.proofs.ValuePairs.{known_shared}
use Rattle.smt_values.specs.ValueView.{parts_held}
use Rattle.smt_values.proofs.value.PartialMap.share.Goals as goal

pub of_ascending-requires : goal.of_ascending-requires
of_ascending-requires c =
    known_shared c.loop-name.pairs.items c.items-name-items.result.now (parts_held c.args.self.now) c.loop-name.name-index c.loop-name-test.false c.loop-name.invariant c.items-name-items.ensures.same c.args.self.now.pairs.ascending
