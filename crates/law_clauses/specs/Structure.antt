-- Clauses of Boolean structure: what `not`, `and`, `or`, `=` and `ite` say of their arguments.
use Rattle.std.specs.Prelude.{List, [], ◌∷◌}
use Rattle.law_terms.specs.Plain.{PlainType, PlainTerm}
use Rattle.law_clauses.specs.Applications.{not_term, and_term, or_term, eq_term, ite_term}
use Rattle.law_clauses.specs.GateClauses.{not_clauses, and_clauses, or_clauses}
use Rattle.law_clauses.specs.Sequents.{AreAlwaysValid, Sequent, either, implies, ◌⊢◌}
use Rattle.law_clauses.specs.Statements.{TruthOf, same_terms}

-- at any type, `=` says that two values are the same
abbrev pub eq_clauses : PlainTerm → PlainTerm → List Sequent
eq_clauses t u = implies (TruthOf (eq_term t u)) (same_terms t u) ∷ implies (same_terms t u) (TruthOf (eq_term t u)) ∷ []

-- at any type, `ite` is the same as one of two
abbrev pub ite_clauses : PlainType → PlainTerm → PlainTerm → PlainTerm → List Sequent
ite_clauses ty g t u =
    implies (TruthOf g) (same_terms (ite_term ty g t u) t) ∷ either (TruthOf g) (same_terms (ite_term ty g t u) u) ∷ []

-- Booleans that are the same are true together, and two that are true are the same; that one which is not true is false needs a
-- type (`Options`)
abbrev pub truth_clauses : PlainTerm → PlainTerm → List Sequent
truth_clauses t u =
    ((same_terms t u ∷ TruthOf t ∷ []) ⊢ (TruthOf u ∷ [])) ∷ ((TruthOf t ∷ TruthOf u ∷ []) ⊢ (same_terms t u ∷ [])) ∷ []

-- all of these are valid
pub record StructureIsValid : Type 0 where
  pub negation : (t : PlainTerm) → AreAlwaysValid (not_clauses (TruthOf (not_term t)) (TruthOf t))
  pub conjunction : (t u : PlainTerm) → AreAlwaysValid (and_clauses (TruthOf (and_term t u)) (TruthOf t) (TruthOf u))
  pub disjunction : (t u : PlainTerm) → AreAlwaysValid (or_clauses (TruthOf (or_term t u)) (TruthOf t) (TruthOf u))
  pub equality : (t u : PlainTerm) → AreAlwaysValid (eq_clauses t u)
  pub choice : (ty : PlainType) (g t u : PlainTerm) → AreAlwaysValid (ite_clauses ty g t u)
  pub truths : (t u : PlainTerm) → AreAlwaysValid (truth_clauses t u)
