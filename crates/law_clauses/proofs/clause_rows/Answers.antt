use Rattle.std.proofs.Common.{refl}
use Rattle.law_clauses.proofs.NoSolution.{not_all_four, not_both_units}
use Rattle.law_clauses.proofs.clause_rows.Goals as goal

pub returns : goal.returns
returns c = record {
  positive = refl;
  negative = refl;
  other_positive = refl;
  other_negative = refl;
  negation = refl;
  negation_back = refl;
  empty = refl;
  one_true = refl;
  none_true = refl;
  both_signs = refl;
  no_clause = tt;
  solved = (refl, (refl, tt));
  unsolved = λ s. let f = s.0 in cc;
  empty_clause = λ v s. let f = s.0 in cc;
  units = λ v s. not_both_units (v 0) s.0 s.1.0;
  all_four = λ v s. not_all_four (v 0) (v 1) s.0 s.1.0 s.1.1.0 s.1.1.1.0;
}
