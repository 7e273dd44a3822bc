use Rattle.std.proofs.Common.{refl}
use Rattle.law_texts.specs.Front.{byte_at}
use Rattle.smt_dimacs.proofs.laws.entries_by_hand.Goals as goal

pub returns : goal.returns
unfolding byte_at
returns c = record {
  end = refl;
  zeros = refl;
  first = refl;
  first_negated = refl;
  third = refl;
  third_negated = refl;
  leading_zero = refl;
  minus_zero = refl;
  minus = refl;
  plus = refl;
  two_minus = refl;
  letter = refl;
  percent = refl;
  problem = refl;
  other_format = refl;
  three_words = refl;
  five_words = refl;
  negative_count = refl;
}
