use Rattle.std.proofs.Common.{[], ◌∷◌, arith, refl}
use Rattle.std.specs.Prelude.{codes}
use Rattle.law_texts.specs.Front.{byte_at}
use Rattle.smt_dimacs.proofs.laws.formulas_by_hand.Goals as goal

pub returns : goal.returns
unfolding byte_at
returns c = record {
  two = record {
    problem = codes "p" ∷ codes "cnf" ∷ codes "3" ∷ codes "2" ∷ [];
    body = (codes "1" ∷ codes "-3" ∷ codes "0" ∷ []) ∷ (codes "2" ∷ codes "3" ∷ codes "-1" ∷ codes "0" ∷ []) ∷ [];
    lines = refl;
    counts = refl;
    entries = refl;
    within = ((omega arith, (omega arith, tt)), ((omega arith, (omega arith, (omega arith, tt))), tt));
  };
  spread = record {
    problem = codes "p" ∷ codes "cnf" ∷ codes "3" ∷ codes "2" ∷ [];
    body = (codes "1" ∷ []) ∷ (codes "-3" ∷ codes "0" ∷ codes "2" ∷ codes "3" ∷ []) ∷ (codes "-1" ∷ codes "0" ∷ []) ∷ [];
    lines = refl;
    counts = refl;
    entries = refl;
    within = ((omega arith, (omega arith, tt)), ((omega arith, (omega arith, (omega arith, tt))), tt));
  };
  nothing = record {
    problem = codes "p" ∷ codes "cnf" ∷ codes "0" ∷ codes "0" ∷ [];
    body = [];
    lines = refl;
    counts = refl;
    entries = refl;
    within = tt;
  };
  empty_clause = record {
    problem = codes "p" ∷ codes "cnf" ∷ codes "0" ∷ codes "1" ∷ [];
    body = (codes "0" ∷ []) ∷ [];
    lines = refl;
    counts = refl;
    entries = refl;
    within = (tt, tt);
  };
  twice = record {
    problem = codes "p" ∷ codes "cnf" ∷ codes "1" ∷ codes "2" ∷ [];
    body = (codes "1" ∷ codes "0" ∷ []) ∷ (codes "1" ∷ codes "0" ∷ []) ∷ [];
    lines = refl;
    counts = refl;
    entries = refl;
    within = ((omega arith, tt), ((omega arith, tt), tt));
  };
}
