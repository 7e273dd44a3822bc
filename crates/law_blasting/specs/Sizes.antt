-- How many gates a circuit over n bits has at most, where equal gates are one.
use Rattle.std.specs.Prelude.{ℕ, zero, suc, ◌+◌, ◌*◌, ◌≤◌, nat_lt, true, false}

-- the gates of an adder or a subtractor: for each bit whether the two are equal, the bit of the result, and the carry or borrow
abbrev pub sum_size : ℕ → ℕ
sum_size n = 3 * n

-- the gates of what is carried or borrowed alone
abbrev pub carry_size : ℕ → ℕ
carry_size n = 2 * n

-- the gates of whether the two last of these differ
abbrev pub overflow_size : ℕ → ℕ
overflow_size n = 2 * n + 2

-- the gates of an equality: for each bit whether the two are equal, and the conjunctions
abbrev pub equal_size : ℕ → ℕ
equal_size n = 2 * n

-- the gates of a choice: one for each bit
abbrev pub choose_size : ℕ → ℕ
choose_size n = n

-- The gates of a shift: a choice for each of k bits that counts fewer places than there are, the lowest of which counts a places; and
-- one choice for all others.
abbrev pub shift_size : (n a k : ℕ) → ℕ
shift_size n a zero = 0
shift_size n a (suc k) = elim (nat_lt a n) [ true ↦ choose_size n + shift_size n (2 * a) k | false ↦ suc k + choose_size n ]

-- a shift of 128 bits has seven choices, and not one for each bit: so no shift has more than 1152 gates
abbrev pub ShiftsAreSmall : Type 0
ShiftsAreSmall = (n k : ℕ) → n ≤ 128 → k ≤ 128 → shift_size n 1 k ≤ 1152
