use Rattle.smt_symbolizer.specs.EntityView.{plain_data}
use Rattle.smt_symbolizer.proofs.SharedTypes.{types_shared}
use Rattle.smt_symbolizer.specs.ByType.{pairs_held}
use Rattle.smt_symbolizer.proofs.entity_data.ByType+SymEntityData.share.Goals as goal

pub of_ascending-requires : goal.of_ascending-requires
of_ascending-requires c =
    types_shared plain_data c.loop-ety.pairs.items c.items-ety-items.result.now (pairs_held c.args.self.now) c.loop-ety.ety-index c.loop-ety-test.false c.loop-ety.invariant c.items-ety-items.ensures c.args.self.now.ascending
