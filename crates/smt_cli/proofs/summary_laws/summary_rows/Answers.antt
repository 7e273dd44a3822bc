use Rattle.std.proofs.Common.{refl}
use Rattle.smt_cli.specs.Generation.{summary_of}
use Rattle.smt_cli.proofs.summary_laws.summary_rows.Goals as goal

pub returns : goal.returns
unfolding summary_of
returns c = record { of_one = refl; of_nine = refl }
