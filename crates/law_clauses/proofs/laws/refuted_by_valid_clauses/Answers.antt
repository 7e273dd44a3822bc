use Rattle.law_clauses.proofs.Sequents.{refuted}
use Rattle.law_clauses.proofs.laws.refuted_by_valid_clauses.Goals as goal

pub returns : goal.returns
returns c = refuted
