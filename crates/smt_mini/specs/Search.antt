-- The search for the first model of a circuit.
use Rattle.std.specs.Prelude.{◌≡◌, ◌&&◌, ◌++◌, ◌∷◌, ◌+◌, ◌-◌, ◌^◌, [], ℕ, min, nat_le, nat_lt, if◌then◌else◌, Bool, true, false, List}
use Rattle.std.specs.Prelude.{length, Some, None, slice_index_or}
use Rattle.std.specs.List.{list_all}
use Rattle.law_verdicts.specs.FirstModel.{first_such}
use Rattle.law_verdicts.specs.TruthRows.{May, Rows as Words, has_bit, just, may_and, may_choose, may_equal, may_not, may_or, row}
use Rattle.smt_mini.specs.declared.gate.Gate.{Gate}
use Rattle.smt_mini.specs.declared.gate.Gate.TheVariants.{Input, Truth, Not, And, Or, Eq, Ite}
use Rattle.smt_mini.specs.declared.rows.Rows.{Rows}
use Rattle.smt_mini.specs.Gates.{gate_truth}

-- every assertion is true where the inputs have these truths
abbrev pub all_hold : List Gate → List ℕ → List Bool → Bool
all_hold gs ps bs = list_all (gate_truth (λ k. slice_index_or bs k false) gs) ps

-- ---- what gates may be, in one row

-- what the program says that a gate may be in all rows
abbrev pub plain_rows : Rows → Words
plain_rows m = record { holds = m.holds; fails = m.fails }

-- what it says that a gate may be in one row
abbrev pub in_row : ℕ → Rows → May
in_row r m = row r (plain_rows m)

-- of so many constants, how many of the last ones have their truths by row
abbrev pub lanes_of : ℕ → ℕ
lanes_of total = min total 6

-- one of so many constants whose truth is not chosen: each of the last six has in a row the bit of the row's number at its place, the
-- last constant the lowest, and each before them may be both; there is no input behind them
abbrev pub may_free : ℕ → ℕ → ℕ → May
may_free total r k =
    if nat_lt k total then (if nat_le total (k + 6) then just (has_bit r (total - 1 - k)) else record { holds = true; fails = true })
    else just false

-- what an input may be in a row, where the first of so many constants have these truths
abbrev pub may_of_input : List Bool → ℕ → ℕ → ℕ → May
may_of_input chosen total r k = if nat_lt k (length chosen) then just (slice_index_or chosen k false) else may_free total r k

-- what an earlier gate may be; where there is none, false
abbrev pub may_place : List May → ℕ → May
may_place done p = slice_index_or done p (just false)

-- what a gate may be, by what the inputs and the earlier gates may be
abbrev pub may_of_gate : (ℕ → May) → List May → Gate → May
may_of_gate at done (Input k) = at k
may_of_gate at done (Truth b) = just b
may_of_gate at done (Not a) = may_not (may_place done a)
may_of_gate at done (And a b) = may_and (may_place done a) (may_place done b)
may_of_gate at done (Or a b) = may_or (may_place done a) (may_place done b)
may_of_gate at done (Eq a b) = may_equal (may_place done a) (may_place done b)
may_of_gate at done (Ite a b c) = may_choose (may_place done a) (may_place done b) (may_place done c)

-- what the earlier gates and those that follow may be, in order
abbrev pub mays_of : (ℕ → May) → List May → List Gate → List May
mays_of at done [] = done
mays_of at done (g ∷ gs) = mays_of at (done ++ may_of_gate at done g ∷ []) gs

-- every assertion may be true in a row, where the first constants have these truths
abbrev pub may_all_hold : List Gate → List ℕ → ℕ → ℕ → List Bool → Bool
may_all_hold gs ps total r chosen = list_all (λ p. (may_place (mays_of (may_of_input chosen total r) [] gs) p).holds) ps

-- the row is one of those of the last constants, and every assertion may be true in it
abbrev pub is_alive : List Gate → List ℕ → ℕ → List Bool → ℕ → Bool
is_alive gs ps total chosen r = nat_lt r (2 ^ lanes_of total) && may_all_hold gs ps total r chosen

-- ---- what is found

-- What is found behind the chosen truths, with so many left, is chosen then; where nothing is found, what was chosen stays.
abbrev pub Searched : (List Bool → Bool) → ℕ → List Bool → List Bool → Bool → Type 0
Searched holds left old new true = (rest : List Bool) × (first_such left (λ bs. holds (old ++ bs)) ≡ Some rest) × (new ≡ old ++ rest)
Searched holds left old new false = (first_such left (λ bs. holds (old ++ bs)) ≡ None) × (new ≡ old)

-- So it is behind the chosen truths and one more.
abbrev pub SearchedWith : (List Bool → Bool) → Bool → ℕ → List Bool → List Bool → Bool → Type 0
SearchedWith holds b left old new true =
    (rest : List Bool) × (first_such left (λ bs. holds (old ++ b ∷ bs)) ≡ Some rest) × (new ≡ old ++ b ∷ rest)
SearchedWith holds b left old new false = (first_such left (λ bs. holds (old ++ b ∷ bs)) ≡ None) × (new ≡ old)
