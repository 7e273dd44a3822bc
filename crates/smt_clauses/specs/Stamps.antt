-- Stamps of literals.
use Rattle.std.specs.Prelude.{◌≡◌, ◌<◌, ◌≤◌, ℕ, List, cond, nat_lt, slice_index}

-- a stamp is of this epoch or an earlier one, or for good
abbrev pub IsStamp : ℕ → ℕ → Type 0
IsStamp epoch s = s < 4294967295 → s ≤ epoch

-- what is left of a stamp where only those for good stay
abbrev pub kept_stamp : ℕ → ℕ
kept_stamp s = cond (nat_lt s 4294967295) 0 s

-- of each stamp there is what is left where only those for good stay
abbrev pub AreTakenBack : List ℕ → List ℕ → Type 0
AreTakenBack old new = (k : ℕ) → slice_index new k ≡ kept_stamp (slice_index old k)
