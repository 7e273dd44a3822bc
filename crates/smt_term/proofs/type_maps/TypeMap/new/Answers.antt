use Rattle.std.proofs.Common.{map}
use Rattle.smt_term.proofs.AscendingPairs.{pairs_ascend}
use Rattle.smt_term.specs.TypeView.{plain_attribute, plain_type}
use Rattle.smt_term.proofs.type_maps.TypeMap.new.Goals as goal

pub of_ascending-requires : goal.of_ascending-requires
of_ascending-requires c = pairs_ascend plain_type c.in_ok-pairs.pairs.items (map plain_attribute c.args.items.now) c.in_ok-pairs.ensures
