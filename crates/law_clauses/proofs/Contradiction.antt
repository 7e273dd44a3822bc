-- One clause that refutes a variable together with its negation.
use Rattle.std.proofs.Common.{◌≡◌, Bool, true, false, ◌||◌, [], ◌∷◌, refl}
use Rattle.law_clauses.specs.Clauses.{opposite}
use Rattle.law_clauses.specs.Applications.{not_term}
use Rattle.law_clauses.specs.Example.{p}
use Rattle.law_clauses.specs.ValidRows.{not_both, p_or_not}
use Rattle.law_clauses.specs.Sequents.{Refute}
use Rattle.law_clauses.proofs.Structure.{structure_is_valid}

-- two truths, not both of which are, and each of which is
apart : (a b : Bool) → (opposite a || (opposite b || false)) ≡ true → (a || false) ≡ true → (b || false) ≡ true → ⊥
apart true true e f g = absurd (let x : false ≡ true = e in cc)
apart true false e f g = absurd (let x : false ≡ true = g in cc)
apart false b e f g = absurd (let x : false ≡ true = f in cc)

pub contradiction : Refute [] (p ∷ not_term p ∷ []) p_or_not (not_both ∷ []) (0 ∷ 1 ∷ [])
contradiction = record {
  roots_numbered = refl;
  valid = (λ I g h. (structure_is_valid.negation p).0 I (h.1.0, (h.0, tt)), tt);
  unsolved = λ v s. apart (v 0) (v 1) s.0 s.1.0 s.1.1.0;
}
