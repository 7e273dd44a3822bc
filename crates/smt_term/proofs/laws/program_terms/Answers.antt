use Rattle.smt_term.proofs.DerivedEquality.{eq_from_same, same_from_eq}
use Rattle.smt_term.proofs.DerivedOrder.{term_cmp-is}
use Rattle.smt_term.proofs.FormedTerms.{terms_are_formed}
use Rattle.smt_term.proofs.DerivedTypeOrder.{type_cmp-is}
use Rattle.smt_term.proofs.SameType.{eq_from_same_type, same_type_from_eq}
use Rattle.smt_term.proofs.laws.program_terms.Goals as goal

pub returns : goal.returns
returns c = record {
  formed = terms_are_formed;
  equality = λ s t. (same_from_eq s t, eq_from_same s t);
  type_equality = λ s t. (same_type_from_eq s t, eq_from_same_type s t);
  order = term_cmp-is;
  type_order = type_cmp-is;
}
