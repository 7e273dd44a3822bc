use Rattle.smt_bits.proofs.SameValue.{same_bounded}
use Rattle.smt_bits.proofs.laws.bounded_numbers_are_ordered.Goals as goal

pub returns-clause-one : goal.returns-clause-one
returns-clause-one c = same_bounded
