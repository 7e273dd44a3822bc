use Rattle.std.proofs.Common.{refl}
use Rattle.law_clauses.proofs.rows.statement_rows.Goals as goal

pub returns : goal.returns
returns c = record {
  terms = refl;
  bits = refl;
  same = refl;
  within = refl;
  apart = refl;
  none_apart = refl;
  constants = refl;
  negations = refl;
  conjunctions = refl;
  disjunctions = refl;
  equalities = refl;
  choices = refl;
}
