-- Gates over numbered variables, and the clauses that say the same of each (Tseitin's).
use Rattle.std.specs.Prelude.{◌≡◌, ◌*◌, ◌+◌, ◌↔◌, ◌&&◌, ◌||◌, ℕ, Bool, true, false, cond, not, List, [], ◌∷◌, ◌++◌, ⊤, suc}
use Rattle.std.specs.Bool.{beq}
use Rattle.law_clauses.specs.Clauses.{Truths, Solves}

-- a gate, whose inputs are other variables
pub data Gate : Type 0 where
  Free : Gate
  Constant : (truth : Bool) → Gate
  Negation : (a : ℕ) → Gate
  Conjunction : (a b : ℕ) → Gate
  Disjunction : (a b : ℕ) → Gate
  Equality : (a b : ℕ) → Gate
  Choice : (a b c : ℕ) → Gate

-- the literal that is true where a variable is
abbrev pub yes : ℕ → ℕ
yes n = 2 * n

-- the literal that is true where it is not
abbrev pub no : ℕ → ℕ
no n = 2 * n + 1

-- the truth of a gate's variable is that of the gate
abbrev pub Computes : Truths → ℕ → Gate → Type 0
Computes v o Free = ⊤
Computes v o (Constant truth) = v o ≡ truth
Computes v o (Negation a) = v o ≡ not (v a)
Computes v o (Conjunction a b) = v o ≡ (v a && v b)
Computes v o (Disjunction a b) = v o ≡ (v a || v b)
Computes v o (Equality a b) = v o ≡ beq (v a) (v b)
Computes v o (Choice a b c) = v o ≡ cond (v a) (v b) (v c)

-- the clauses of a gate
abbrev pub gate_clauses : ℕ → Gate → List (List ℕ)
gate_clauses o Free = []
gate_clauses o (Constant true) = (yes o ∷ []) ∷ []
gate_clauses o (Constant false) = (no o ∷ []) ∷ []
gate_clauses o (Negation a) = (no o ∷ no a ∷ []) ∷ (yes o ∷ yes a ∷ []) ∷ []
gate_clauses o (Conjunction a b) = (no o ∷ yes a ∷ []) ∷ (no o ∷ yes b ∷ []) ∷ (yes o ∷ no a ∷ no b ∷ []) ∷ []
gate_clauses o (Disjunction a b) = (yes o ∷ no a ∷ []) ∷ (yes o ∷ no b ∷ []) ∷ (no o ∷ yes a ∷ yes b ∷ []) ∷ []
gate_clauses o (Equality a b) =
    (no o ∷ no a ∷ yes b ∷ []) ∷ (no o ∷ yes a ∷ no b ∷ []) ∷ (yes o ∷ yes a ∷ yes b ∷ []) ∷ (yes o ∷ no a ∷ no b ∷ []) ∷ []
gate_clauses o (Choice a b c) =
    (no o ∷ no a ∷ yes b ∷ []) ∷ (no o ∷ yes a ∷ yes c ∷ []) ∷ (yes o ∷ no a ∷ no b ∷ []) ∷ (yes o ∷ yes a ∷ no c ∷ []) ∷ []

-- the clauses of a gate are true exactly where its variable has its truth
abbrev pub GatesAreClauses : Type 0
GatesAreClauses = (v : Truths) (o : ℕ) (g : Gate) → Solves v (gate_clauses o g) ↔ Computes v o g

-- the clauses of gates whose variables are numbered from n
abbrev pub circuit_clauses : ℕ → List Gate → List (List ℕ)
circuit_clauses n [] = []
circuit_clauses n (g ∷ gs) = gate_clauses n g ++ circuit_clauses (suc n) gs

-- each of these variables has the truth of its gate
abbrev pub ComputeAll : Truths → ℕ → List Gate → Type 0
ComputeAll v n [] = ⊤
ComputeAll v n (g ∷ gs) = Computes v n g × ComputeAll v (suc n) gs

-- the clauses of a circuit are true exactly where each variable has the truth of its gate
abbrev pub CircuitsAreClauses : Type 0
CircuitsAreClauses = (v : Truths) (n : ℕ) (gs : List Gate) → Solves v (circuit_clauses n gs) ↔ ComputeAll v n gs
