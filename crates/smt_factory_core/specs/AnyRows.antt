-- Disjunctions of what a call answers, at chosen terms.
use Rattle.std.specs.Prelude.{◌≡◌, true, false, [], ◌∷◌, Ok}
use Rattle.smt_factory_core.specs.AnyOf.{IsTrueWhereOneIs}
use Rattle.law_folding.specs.Applications.{false_term, true_term}
use Rattle.law_folding.specs.FoldRows.{truths}

-- the disjunction of the terms themselves, which is what a call answers that gives each term back: false and true give true,
-- and not false
pub record AnyRows : Type 0 where
  pub one_is_true : IsTrueWhereOneIs (λ t r. r ≡ Ok t) (truths (false ∷ true ∷ [])) true_term
  pub not_false : IsTrueWhereOneIs (λ t r. r ≡ Ok t) (truths (false ∷ true ∷ [])) false_term → ⊥
