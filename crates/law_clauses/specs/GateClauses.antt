-- Clauses of gates: a statement is the negation, conjunction, .. of others (Tseitin's).
use Rattle.std.specs.Prelude.{◌≡◌, ◌&&◌, ◌||◌, true, false, cond, not, List, [], ◌∷◌}
use Rattle.std.specs.Bool.{beq}
use Rattle.law_blasting.specs.Circuits.{Gates}
use Rattle.law_terms.specs.Tables.{Interpretation}
use Rattle.law_clauses.specs.Sequents.{AreAlwaysValid, IsAlwaysValid, Sequent, always, either, implies, ◌⊢◌}
use Rattle.law_clauses.specs.Statements.{Atom, Choice, Conjunction, Constant, Disjunction, Equality, Negation, atom_truth}

-- gates that are statements, so that circuits are made of statements
abbrev pub atom_gates : Gates Atom
atom_gates =
    record { no = Constant false; yes = Constant true; not = Negation; and = Conjunction; or = Disjunction; eq = Equality; ite = Choice }

-- o is the negation of a
abbrev pub not_clauses : Atom → Atom → List Sequent
not_clauses o a = ((o ∷ a ∷ []) ⊢ []) ∷ either o a ∷ []

-- o is that a and b are true
abbrev pub and_clauses : Atom → Atom → Atom → List Sequent
and_clauses o a b = implies o a ∷ implies o b ∷ ((a ∷ b ∷ []) ⊢ (o ∷ [])) ∷ []

-- o is that a or b is true
abbrev pub or_clauses : Atom → Atom → Atom → List Sequent
or_clauses o a b = implies a o ∷ implies b o ∷ ((o ∷ []) ⊢ (a ∷ b ∷ [])) ∷ []

-- o is that both are true or neither
abbrev pub equality_clauses : Atom → Atom → Atom → List Sequent
equality_clauses o a b =
    ((o ∷ a ∷ []) ⊢ (b ∷ [])) ∷ ((o ∷ b ∷ []) ⊢ (a ∷ [])) ∷ ((a ∷ b ∷ []) ⊢ (o ∷ [])) ∷ ([] ⊢ (o ∷ a ∷ b ∷ [])) ∷ []

-- o is a where c is true, and b where it is not
abbrev pub choice_clauses : Atom → Atom → Atom → Atom → List Sequent
choice_clauses o c a b =
    ((o ∷ c ∷ []) ⊢ (a ∷ [])) ∷ ((o ∷ []) ⊢ (c ∷ b ∷ [])) ∷ ((c ∷ a ∷ []) ⊢ (o ∷ [])) ∷ ((b ∷ []) ⊢ (o ∷ c ∷ [])) ∷ []

-- Where the truth of o is in every interpretation that of the gate, its clauses are valid. So it is of terms (`Structure`) and of
-- gates that are statements, by how truth is defined.
pub record GatesAreValid : Type 0 where
  pub constant : IsAlwaysValid (always (Constant true)) × IsAlwaysValid ((Constant false ∷ []) ⊢ [])
  pub negation : (o a : Atom) → ((I : Interpretation) → atom_truth I o ≡ not (atom_truth I a)) → AreAlwaysValid (not_clauses o a)
  pub conjunction :
      (o a b : Atom) → ((I : Interpretation) → atom_truth I o ≡ (atom_truth I a && atom_truth I b)) → AreAlwaysValid (and_clauses o a b)
  pub disjunction :
      (o a b : Atom) → ((I : Interpretation) → atom_truth I o ≡ (atom_truth I a || atom_truth I b)) → AreAlwaysValid (or_clauses o a b)
  pub equality :
      (o a b : Atom) → ((I : Interpretation) → atom_truth I o ≡ beq (atom_truth I a) (atom_truth I b))
      → AreAlwaysValid (equality_clauses o a b)
  pub choice :
      (o c a b : Atom) → ((I : Interpretation) → atom_truth I o ≡ cond (atom_truth I c) (atom_truth I a) (atom_truth I b))
      → AreAlwaysValid (choice_clauses o c a b)
