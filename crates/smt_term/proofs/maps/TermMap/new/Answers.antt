use Rattle.std.proofs.Common.{map}
use Rattle.smt_term.proofs.AscendingPairs.{pairs_ascend}
use Rattle.smt_term.specs.Maps.{plain_field}
use Rattle.smt_term.specs.View.{plain_term}
use Rattle.smt_term.proofs.maps.TermMap.new.Goals as goal

pub new-requires : goal.new-requires
new-requires c = pairs_ascend plain_term c.in_ok-pairs.pairs.items (map plain_field c.args.items.now) c.in_ok-pairs.ensures
