use Rattle.std.proofs.Common.{refl}
use Rattle.law_clauses.proofs.rows.equality_rows.Goals as goal

pub returns : goal.returns
returns c = record {
  negation = refl;
  conjunction = refl;
  disjunction = refl;
  same = refl;
  differ = refl;
  chosen = refl;
  other_chosen = refl;
  booleans = refl;
  itself = refl;
  turned = refl;
  through = refl;
  function_of_same = refl;
  function_of_others = refl;
  sets_of_same = refl;
  options_of_same = refl;
  records_of_others = refl;
  known = refl;
  not_known = refl;
  known_to_differ = refl;
}
