use Rattle.std.proofs.Common.{refl}
use Rattle.law_clauses.proofs.gate_rows.Goals as goal

pub returns : goal.returns
returns c = record {
  free = refl;
  always = refl;
  never = refl;
  negation = refl;
  conjunction = refl;
  disjunction = refl;
  equality = refl;
  choice = refl;
  circuit = refl;
  negated_true = (refl, (refl, tt));
  negated_false = λ s. let f = s.0 in cc;
  both = (refl, (refl, (refl, tt)));
  one_alone = λ s. let f = s.1.0 in cc;
  either = (refl, (refl, (refl, tt)));
  neither = λ s. let f = s.1.1.0 in cc;
  same = (refl, (refl, (refl, (refl, tt))));
  apart = λ s. let f = s.0 in cc;
  chosen = (refl, (refl, (refl, (refl, tt))));
  other_chosen = λ s. let f = s.1.0 in cc;
}
