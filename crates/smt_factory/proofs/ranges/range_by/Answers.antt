use Rattle.smt_bits.specs.Width.{bits_in}
use Rattle.smt_factory.proofs.Rules.{pair_folds}
use Rattle.smt_factory.proofs.ranges.range_by.Goals as goal
use Rattle.smt_term.specs.View.{plain_term}

pub returns : goal.returns
returns c = pair_folds (bits_in c.args.width) (plain_term c.args.address.now) (plain_term c.args.free.now) (plain_term c.in_ok-lowest.lowest) (plain_term c.in_ok-highest.highest) c.in_ok-lowest.ensures c.in_ok-highest.ensures
