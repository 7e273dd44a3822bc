use Rattle.smt_bits.proofs.SameValue.{same_bits}
use Rattle.smt_bits.proofs.laws.bitvectors_are_ordered.Goals as goal

pub returns-clause-one : goal.returns-clause-one
returns-clause-one c = same_bits
