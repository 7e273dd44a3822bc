use Rattle.std.proofs.Common.{refl}
use Rattle.law_verdicts.proofs.StreamHonest.{heard_is_honest}
use Rattle.smt_review.proofs.laws.small_findings_are_believed.Goals as goal

pub returns : goal.returns
returns c = λ starter call relation before after bytes found holds. found.believed (λ link. record { sent = refl; was_read = refl; to_come = refl }) heard_is_honest holds
