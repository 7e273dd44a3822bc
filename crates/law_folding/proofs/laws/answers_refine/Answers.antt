use Rattle.law_folding.proofs.BitsStand.{bits_answered, test_answered}
use Rattle.law_folding.proofs.laws.answers_refine.Goals as goal

pub returns : goal.returns
returns c = record { bits = bits_answered; test = test_answered }
