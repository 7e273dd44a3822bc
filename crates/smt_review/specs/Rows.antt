-- Worked examples of relations and differences.
use Rattle.std.specs.Prelude.{◌≡◌, true, false, codes}
use Rattle.law_terms.specs.Plain.{BoolType, PlainTerm, VariableTerm}
use Rattle.law_folding.specs.Applications.{and_of, eq_of, false_term, not_of}
use Rattle.law_folding.specs.Builder.{folding}
use Rattle.smt_review.specs.Differences.{difference_by, related}
use Rattle.smt_review.specs.declared.relation.Relation.TheVariants.{Equivalent, Implies, Disjoint}

-- two Boolean variables
abbrev pub first : PlainTerm
first = VariableTerm (codes "a") BoolType

abbrev pub second : PlainTerm
second = VariableTerm (codes "b") BoolType

-- truth values, and differences of variables
pub record RelationRows : Type 0 where
  -- a false condition implies any, and a true one no false one
  pub from_false : related Implies false false ≡ true
  pub from_true : related Implies true false ≡ false
  -- two conditions are disjoint where both are false, too
  pub both_false : related Disjoint false false ≡ true
  pub both_true : related Disjoint true true ≡ false
  pub alike : related Equivalent false false ≡ true
  -- what is folded: a condition implies itself, and is equivalent to itself
  pub implies_itself : difference_by folding Implies first first ≡ false_term
  pub is_itself : difference_by folding Equivalent first first ≡ false_term
  pub and_its_negation : difference_by folding Disjoint first (not_of first) ≡ false_term
  -- nothing is folded of two variables
  pub implied : difference_by folding Implies first second ≡ and_of first (not_of second)
  pub equivalent : difference_by folding Equivalent first second ≡ not_of (eq_of first second)
