use Rattle.smt_term.specs.Functions.{plain_unary}
use Rattle.smt_symbolizer.proofs.SharedTypes.{types_shared}
use Rattle.smt_symbolizer.specs.ByType.{pairs_held}
use Rattle.smt_symbolizer.proofs.entity_data.ByType+UnaryFunction.share.Goals as goal

pub of_ascending-requires : goal.of_ascending-requires
of_ascending-requires c =
    types_shared plain_unary c.loop-kind.pairs.items c.items-kind-items.result.now (pairs_held c.args.self.now) c.loop-kind.kind-index c.loop-kind-test.false c.loop-kind.invariant c.items-kind-items.ensures c.args.self.now.ascending
