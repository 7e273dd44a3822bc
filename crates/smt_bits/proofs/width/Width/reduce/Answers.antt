use Rattle.law_numbers.proofs.Masks.{masked}
use Rattle.smt_bits.proofs.width.Width.reduce.Goals as goal

pub returns-clause-value : goal.returns-clause-value
returns-clause-value c = masked c.args.number c.ones.result c.args.self.bits c.ones.ensures
