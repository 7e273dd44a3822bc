use Rattle.smt_values.proofs.ValuePairs.{fields_shared}
use Rattle.smt_values.specs.ValueView.{fields_held}
use Rattle.smt_values.proofs.value.+share.Goals as goal

pub ValueMap::share-of_ascending-requires : goal.ValueMap::share-of_ascending-requires
ValueMap::share-of_ascending-requires t c =
    fields_shared c.loop-name.pairs.items c.items-name-items.result.now (fields_held c.args.self.now) c.loop-name.name-index c.loop-name-test.false c.loop-name.invariant c.items-name-items.ensures.same c.args.self.now.pairs.ascending
