use Rattle.std.proofs.Common.{refl}
use Rattle.law_verdicts.proofs.StreamHonest.{heard_is_honest}
use Rattle.smt_cli.proofs.laws.small_verdicts_are_believed.Goals as goal

pub returns : goal.returns
returns c = λ starter call before after bytes checks. checks.believed (record { sent = refl; was_read = refl; to_come = refl }) heard_is_honest
