use Rattle.law_numbers.proofs.Masks.{ones_of}
use Rattle.smt_bits.proofs.width.Width.ones.Goals as goal

pub returns : goal.returns
returns c = ones_of c.args.self.bits c.args.self.at_most_128
