use Rattle.smt_cli.proofs.Conditions.{generated_conditions}
use Rattle.smt_cli.proofs.laws.generated_terms_are_conditions.Goals as goal

pub returns : goal.returns
returns c = generated_conditions
