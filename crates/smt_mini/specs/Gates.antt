-- The truths of gates.
use Rattle.std.specs.Prelude.{ℕ, Bool, false, not, ◌&&◌, ◌||◌, if◌then◌else◌, List, [], ◌∷◌, ◌++◌, slice_index_or}
use Rattle.std.specs.Bool.{beq}
use Rattle.smt_mini.specs.declared.gate.Gate.{Gate}
use Rattle.smt_mini.specs.declared.gate.Gate.TheVariants.{Input, Truth, Not, And, Or, Eq, Ite}

-- the truth of an earlier gate; where there is none, false
abbrev pub value_at : List Bool → ℕ → Bool
value_at done p = slice_index_or done p false

-- the truth of a gate, by those of the inputs and of the earlier gates
abbrev pub gate_value : (ℕ → Bool) → List Bool → Gate → Bool
gate_value at done (Input k) = at k
gate_value at done (Truth b) = b
gate_value at done (Not a) = not (value_at done a)
gate_value at done (And a b) = value_at done a && value_at done b
gate_value at done (Or a b) = value_at done a || value_at done b
gate_value at done (Eq a b) = beq (value_at done a) (value_at done b)
gate_value at done (Ite a b c) = if value_at done a then value_at done b else value_at done c

-- the truths of earlier gates and of those that follow, in order
abbrev pub values_behind : (ℕ → Bool) → List Bool → List Gate → List Bool
values_behind at done [] = done
values_behind at done (g ∷ gs) = values_behind at (done ++ gate_value at done g ∷ []) gs

-- the truth of the gate at a place, by those of the inputs
abbrev pub gate_truth : (ℕ → Bool) → List Gate → ℕ → Bool
gate_truth at gs p = value_at (values_behind at [] gs) p
