-- Worked examples of clauses and gates.
use Rattle.std.specs.Prelude.{◌≡◌, ℕ, Bool, true, false, cond, nat_eq, List, [], ◌∷◌, zero, suc}
use Rattle.law_clauses.specs.Clauses.{Truths, Solves, HaveNoSolution, clause_truth, literal_truth, negated}
use Rattle.law_clauses.specs.Gates.{Free, Constant, Negation, Conjunction, Disjunction, Equality, Choice, circuit_clauses, gate_clauses}

-- the variables 0 and 1 have these truths, and all others are false
abbrev pub these : Bool → Bool → Truths
these a b zero = a
these a b (suc zero) = b
these a b (suc (suc n)) = false

-- variable 0 or not variable 1; and variable 1
abbrev pub two_clauses : List (List ℕ)
two_clauses = (0 ∷ 3 ∷ []) ∷ (2 ∷ []) ∷ []

-- each clause that two variables have
abbrev pub four_clauses : List (List ℕ)
four_clauses = (0 ∷ 2 ∷ []) ∷ (0 ∷ 3 ∷ []) ∷ (1 ∷ 2 ∷ []) ∷ (1 ∷ 3 ∷ []) ∷ []

-- Literals of both signs, the empty clause, a formula with its only solution, and formulas without one
pub record ClauseRows : Type 0 where
  pub positive : literal_truth (these true false) 0 ≡ true
  pub negative : literal_truth (these true false) 1 ≡ false
  pub other_positive : literal_truth (these true false) 2 ≡ false
  pub other_negative : literal_truth (these true false) 3 ≡ true
  pub negation : negated 6 ≡ 7
  pub negation_back : negated 7 ≡ 6
  pub empty : clause_truth (these true true) [] ≡ false
  pub one_true : clause_truth (these false false) (0 ∷ 3 ∷ []) ≡ true
  pub none_true : clause_truth (these false true) (0 ∷ 3 ∷ []) ≡ false
  pub both_signs : clause_truth (these false false) (0 ∷ 1 ∷ []) ≡ true
  pub no_clause : Solves (these false false) []
  pub solved : Solves (these true true) two_clauses
  pub unsolved : Solves (these false true) two_clauses → ⊥
  pub empty_clause : HaveNoSolution ([] ∷ [])
  pub units : HaveNoSolution ((0 ∷ []) ∷ (1 ∷ []) ∷ [])
  pub all_four : HaveNoSolution four_clauses

-- the same where variable 2 is true
abbrev pub true_gate : Bool → Bool → Truths
true_gate a b n = cond (nat_eq n 2) true (these a b n)

-- The clauses of each gate, in numbers, and of a circuit, whose gates are numbered in order; what solves them and what does not
pub record GateRows : Type 0 where
  pub free : gate_clauses 2 Free ≡ []
  pub always : gate_clauses 2 (Constant true) ≡ (4 ∷ []) ∷ []
  pub never : gate_clauses 2 (Constant false) ≡ (5 ∷ []) ∷ []
  pub negation : gate_clauses 2 (Negation 0) ≡ (5 ∷ 1 ∷ []) ∷ (4 ∷ 0 ∷ []) ∷ []
  pub conjunction : gate_clauses 2 (Conjunction 0 1) ≡ (5 ∷ 0 ∷ []) ∷ (5 ∷ 2 ∷ []) ∷ (4 ∷ 1 ∷ 3 ∷ []) ∷ []
  pub disjunction : gate_clauses 2 (Disjunction 0 1) ≡ (4 ∷ 1 ∷ []) ∷ (4 ∷ 3 ∷ []) ∷ (5 ∷ 0 ∷ 2 ∷ []) ∷ []
  pub equality : gate_clauses 2 (Equality 0 1) ≡ (5 ∷ 1 ∷ 2 ∷ []) ∷ (5 ∷ 0 ∷ 3 ∷ []) ∷ (4 ∷ 0 ∷ 2 ∷ []) ∷ (4 ∷ 1 ∷ 3 ∷ []) ∷ []
  pub choice : gate_clauses 3 (Choice 0 1 2) ≡ (7 ∷ 1 ∷ 2 ∷ []) ∷ (7 ∷ 0 ∷ 4 ∷ []) ∷ (6 ∷ 1 ∷ 3 ∷ []) ∷ (6 ∷ 0 ∷ 5 ∷ []) ∷ []
  pub circuit : circuit_clauses 0 (Free ∷ Negation 0 ∷ Constant true ∷ []) ≡ (3 ∷ 1 ∷ []) ∷ (2 ∷ 0 ∷ []) ∷ (4 ∷ []) ∷ []
  pub negated_true : Solves (true_gate false false) (gate_clauses 2 (Negation 0))
  pub negated_false : Solves (true_gate true false) (gate_clauses 2 (Negation 0)) → ⊥
  pub both : Solves (true_gate true true) (gate_clauses 2 (Conjunction 0 1))
  pub one_alone : Solves (true_gate true false) (gate_clauses 2 (Conjunction 0 1)) → ⊥
  pub either : Solves (true_gate false true) (gate_clauses 2 (Disjunction 0 1))
  pub neither : Solves (true_gate false false) (gate_clauses 2 (Disjunction 0 1)) → ⊥
  pub same : Solves (true_gate false false) (gate_clauses 2 (Equality 0 1))
  pub apart : Solves (true_gate true false) (gate_clauses 2 (Equality 0 1)) → ⊥
  pub chosen : Solves (true_gate true true) (gate_clauses 2 (Choice 0 1 3))
  pub other_chosen : Solves (true_gate false true) (gate_clauses 2 (Choice 0 1 3)) → ⊥
