-- Formulas without a solution.
use Rattle.std.proofs.Common.{◌≡◌}
use Rattle.std.specs.Prelude.{◌||◌, Bool, true, false}
use Rattle.law_clauses.specs.Clauses.{opposite}

-- a truth and the other one are not both true
pub not_both_units : (a : Bool) → (a || false) ≡ true → (opposite a || false) ≡ true → ⊥
not_both_units true h k = cc
not_both_units false h k = cc

-- no two truths make all four clauses over them true
pub not_all_four : (a b : Bool) → (a || (b || false)) ≡ true → (a || (opposite b || false)) ≡ true → (opposite a || (b || false)) ≡ true → (opposite a || (opposite b || false)) ≡ true → ⊥
not_all_four true true h k l m = cc
not_all_four true false h k l m = cc
not_all_four false true h k l m = cc
not_all_four false false h k l m = cc
