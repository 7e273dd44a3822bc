use Rattle.std.proofs.Common.{refl}
use Rattle.law_clauses.proofs.Contradiction.{contradiction}
use Rattle.law_clauses.proofs.rows.refutation_rows.Goals as goal

pub returns : goal.returns
returns c = record {
  by_literals = refl;
  by_statements = refl;
  with_roots = refl;
  contradiction = contradiction;
}
